-- Values read off a part of a slice, and their sums. Assumes nothing.
use Rattle.std.proofs.Common.{◌≡◌, ℕ, zero, suc, Bool, true, false, List, [], ◌∷◌, map, length, take, drop, ℤ, Some, fold, Option, sym, refl, ap, ◌∙◌}
use Rattle.std.specs.Option.{option_map}
use Rattle.std.proofs.lemmas.List.{length-map, take-map, drop-map}
use Rattle.std.proofs.lemmas.List.Folds.{fold-map}
use Rattle.dtype.specs.declared.value.Value.{Value}
use Rattle.dtype.specs.Values.{nat_of, int_of}
use Rattle.sums.specs.declared.state.SumState.{SumState}
use Rattle.sums.specs.declared.state.SumState.TheVariants.{Unsigned, Signed}
use Rattle.sums.specs.Sums.{Adding, unsigned64, signed64, step, exact_total, checked_sum, cut, chunked}
use Rattle.columns.specs.States.{unsigned_span, signed_span}

-- a part of the values is the values of the part
pub part_map : {X Y : Type 0} (f : X → Y) (xs : List X) (s n : ℕ) → take n (drop s (map f xs)) ≡ map f (take n (drop s xs))
part_map f xs s n = rw (drop-map f s xs, take-map f n (drop s xs)) refl

-- cut and mapped in either order
cut_map : {X Y : Type 0} (f : X → Y) (k fuel : ℕ) (xs : List X) → cut k fuel (map f xs) ≡ map (map f) (cut k fuel xs)
cut_map f k zero xs = refl
cut_map f k (suc fuel) [] = refl
cut_map f k (suc fuel) (x ∷ xs) =
    let rest = cut_map f k fuel (drop k (x ∷ xs)) in
    let first = take-map f k (x ∷ xs) in
    let after = drop-map f k (x ∷ xs) in
    cc

module _ {N X Y : Type 0} (a : Adding N) (w : Y → N) (f : X → Y) where
  chunks_map : (o : Option N) (cs : List (List X)) → fold (λ s c. step a s (exact_total a w c)) o (map (map f) cs) ≡ fold (λ s c. step a s (exact_total a (λ x. w (f x)) c)) o cs
  chunks_map o [] = refl
  chunks_map o (c ∷ cs) =
      let total = fold-map (λ s y. a.plus s (w y)) f a.zero c in
      let rest = chunks_map (step a o (exact_total a (λ x. w (f x)) c)) cs in
      cc

  -- the sum of values is the sum of what they are read off
  sum_map : (n : Bool) (acc : N) (xs : List X) → checked_sum a n w acc (map f xs) ≡ checked_sum a n (λ x. w (f x)) acc xs
  sum_map false acc xs = fold-map (λ s y. step a s (w y)) f (Some acc) xs
  sum_map true acc xs =
      ap (λ k. fold (λ s c. step a s (exact_total a w c)) (Some acc) (cut 65536 k (map f xs))) (length-map xs f)
      ∙ ap (fold (λ s c. step a s (exact_total a w c)) (Some acc)) (cut_map f 65536 (length xs) xs)
      ∙ chunks_map (Some acc) (chunked 65536 xs)

-- the sum of what values are read off is their span, for each family
module _ {X : Type 0} (h : X → Value) (xs : List X) (st : SumState) where
  pub unsigned_part : (n : Bool) (acc : ℕ) (o : Option ℕ) → st ≡ Unsigned acc → o ≡ checked_sum unsigned64 n (λ x. nat_of (h x)) acc xs → option_map Unsigned o ≡ unsigned_span n (map h xs) st
  unsigned_part n acc o se e = ap (option_map Unsigned) (e ∙ sym (sum_map unsigned64 nat_of h n acc xs)) ∙ ap (unsigned_span n (map h xs)) (sym se)

  pub signed_part : (n : Bool) (acc : ℤ) (o : Option ℤ) → st ≡ Signed acc → o ≡ checked_sum signed64 n (λ x. int_of (h x)) acc xs → option_map Signed o ≡ signed_span n (map h xs) st
  signed_part n acc o se e = ap (option_map Signed) (e ∙ sym (sum_map signed64 int_of h n acc xs)) ∙ ap (signed_span n (map h xs)) (sym se)
