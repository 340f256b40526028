-- Checked sums of any family, one turn of a loop at a time. Assumes nothing.
use Rattle.std.proofs.Common.{◌≡◌, ℕ, ◌+◌, ◌<◌, ◌≤◌, min, Bool, true, false, List, [], ◌∷◌, ◌++◌, length, get_or, take, drop, Some, None, fold, refl, ap, arith, take-append-drop, take_all}
use Rattle.std.proofs.lemmas.List.Sums.{fold_more, fold-append}
use Rattle.sums.specs.Sums.{Adding, step, exact_total, checked_sum, chunked}
use Rattle.sums.proofs.Chunks.{chunked_first}

module _ {N X : Type 0} (a : Adding N) (f : X → N) where
  pub none_stays : (xs : List X) → fold (λ s x. step a s (f x)) None xs ≡ None
  none_stays [] = refl
  none_stays (x ∷ xs) = none_stays xs

  -- one element more of a checked sum
  pub step_next : (acc t : N) (xs : List X) (i : ℕ) (x : X) → i < length xs → x ≡ get_or xs i x
      → Some t ≡ fold (λ s y. step a s (f y)) (Some acc) (take i xs)
      → step a (Some t) (f x) ≡ fold (λ s y. step a s (f y)) (Some acc) (take (i + 1) xs)
  step_next acc t xs i x h e te =
      let more = fold_more (λ s y. step a s (f y)) (Some acc) xs i x h in
      cc

  -- the overflow at one element ends the sum
  pub overflow_ends : (n : Bool) → n ≡ false → (acc t : N) (xs : List X) (i : ℕ) (x : X) → i < length xs → x ≡ get_or xs i x
      → Some t ≡ fold (λ s y. step a s (f y)) (Some acc) (take i xs) → step a (Some t) (f x) ≡ None
      → None ≡ checked_sum a n f acc xs
  overflow_ends n p acc t xs i x h e te over =
      let whole = take-append-drop (i + 1) xs in
      let parts = fold-append (λ s y. step a s (f y)) (Some acc) (take (i + 1) xs) (drop (i + 1) xs) in
      let next = step_next acc t xs i x h e te in
      let stays = none_stays (drop (i + 1) xs) in
      cc

  pub all_added : (n : Bool) → n ≡ false → (acc t : N) (xs : List X) (i : ℕ) → length xs ≤ i
      → Some t ≡ fold (λ s y. step a s (f y)) (Some acc) (take i xs) → Some t ≡ checked_sum a n f acc xs
  all_added n p acc t xs i h te =
      let all = take_all i xs h in
      cc

  first_chunk : (acc : N) (xs c rest : List X) → 0 < length xs → xs ≡ c ++ rest → length c ≡ min 65536 (length xs)
      → checked_sum a true f acc xs ≡ fold (λ s p. step a s (exact_total a f p)) (step a (Some acc) (exact_total a f c)) (chunked 65536 rest)
  first_chunk acc xs c rest h e l =
      ap (fold (λ s p. step a s (exact_total a f p)) (Some acc)) (chunked_first 65536 xs c rest (omega arith) h e l)

-- chunks of narrow values
module _ {N X : Type 0} (a : Adding N) (f : X → N) where
  -- a chunk that was added leaves what follows it
  pub chunk_added : (n : Bool) → n ≡ true → (acc t : N) (xs c rest : List X) → 0 < length xs → xs ≡ c ++ rest → length c ≡ min 65536 (length xs)
      → step a (Some acc) (exact_total a f c) ≡ Some t → checked_sum a n f t rest ≡ checked_sum a n f acc xs
  chunk_added n p acc t xs c rest h e l st =
      let first = first_chunk a f acc xs c rest h e l in
      cc

  pub chunk_overflow_ends : (n : Bool) → n ≡ true → (acc : N) (xs c rest : List X) → 0 < length xs → xs ≡ c ++ rest → length c ≡ min 65536 (length xs)
      → step a (Some acc) (exact_total a f c) ≡ None → None ≡ checked_sum a n f acc xs
  chunk_overflow_ends n p acc xs c rest h e l st =
      let first = first_chunk a f acc xs c rest h e l in
      let stays = none_stays a (exact_total a f) (chunked 65536 rest) in
      cc

  pub nothing_left : (n : Bool) (t : N) (rest : List X) → length rest ≡ 0 → Some t ≡ checked_sum a n f t rest
  nothing_left true t [] h = refl
  nothing_left false t [] h = refl
  nothing_left n t (x ∷ xs) h = absurd (omega arith)
