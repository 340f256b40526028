-- A list cut in chunks, as `chunks` cuts a slice. Assumes nothing.
use Rattle.std.proofs.Common.{◌≡◌, ℕ, zero, suc, ◌<◌, ◌≤◌, min, List, [], ◌∷◌, ◌++◌, length, take, drop, sym, refl, ap, ◌∙◌, arith, length-append, length-drop, take_all}
use Rattle.std.proofs.lemmas.List.{take_at, drop_at, drop_all, append-nil}
use Rattle.sums.specs.Sums.{cut, chunked}

cut_none : {X : Type 0} (k fuel : ℕ) → cut {X = X} k fuel [] ≡ []
cut_none k zero = refl
cut_none k (suc fuel) = refl

cut_fuel : {X : Type 0} (k fuel more : ℕ) (xs : List X) → 0 < k → length xs ≤ fuel → length xs ≤ more → cut k fuel xs ≡ cut k more xs
cut_fuel k fuel more [] h a b = cut_none k fuel ∙ sym (cut_none k more)
cut_fuel k zero more (x ∷ xs) h a b = absurd (omega arith)
cut_fuel k (suc fuel) zero (x ∷ xs) h a b = absurd (omega arith)
cut_fuel k (suc fuel) (suc more) (x ∷ xs) h a b =
    let less = length-drop k (x ∷ xs) in
    ap (λ r. take k (x ∷ xs) ∷ r) (cut_fuel k fuel more (drop k (x ∷ xs)) h (omega arith) (omega arith))

front : {X : Type 0} (k : ℕ) (c rest : List X) → length c ≡ min k (length (c ++ rest)) → (take k (c ++ rest) ≡ c) × (drop k (c ++ rest) ≡ rest)
front k c [] h = rw append-nil (let low : length c ≤ k = omega (arith, length-append c []) in (take_all k c low, drop_all k c low))
front k c (r ∷ rest) h =
    let full : length c ≡ k = omega (arith, length-append c (r ∷ rest)) in
    (take_at c (r ∷ rest) k full, drop_at c (r ∷ rest) k full)

chunked_at : {X : Type 0} (k : ℕ) (xs : List X) → 0 < k → 0 < length xs → chunked k xs ≡ take k xs ∷ chunked k (drop k xs)
chunked_at k [] h n = absurd (omega arith)
chunked_at k (x ∷ xs) h n =
    let less = length-drop k (x ∷ xs) in
    ap (λ r. take k (x ∷ xs) ∷ r) (cut_fuel k (length xs) (length (drop k (x ∷ xs))) (drop k (x ∷ xs)) h (omega arith) (omega arith))

-- the first chunk of a list, and the chunks of what follows it
pub chunked_first : {X : Type 0} (k : ℕ) (xs c rest : List X) → 0 < k → 0 < length xs → xs ≡ c ++ rest → length c ≡ min k (length xs) → chunked k xs ≡ c ∷ chunked k rest
chunked_first k xs c rest h n e l =
    let f = front k c rest (l ∙ ap (λ ys. min k (length ys)) e) in
    let first = chunked_at k xs h n in
    cc
