-- What a merge of two sites answers and leaves. Assumes nothing.
use Rattle.std.proofs.Common.{◌≡◌, ℕ, ◌<◌, ◌≤◌, List, length, get_or, set, Some, None, Ok, Err, Option, refl}
use Rattle.std.specs.List.{slice_get}
use Rattle.std.proofs.lemmas.List.{get_or-set_other}
use Rattle.std.proofs.lemmas.Option.{slice_get_past, slice_get-get_or}
use Rattle.std.proofs.lemmas.Bool.{eq-eqb, ne_eqb}
use Rattle.dtype.specs.declared.refusal.Refusal.TheVariants.{NoSuchSite, SameSite}
use Rattle.aggregates.specs.Model.{Model}
use Rattle.accumulators.specs.declared.accumulator.Accumulator.{Accumulator}
use Rattle.accumulators.specs.Accumulators.{Told, with_partial, merged_into}
use Rattle.accumulators.specs.Boards.{board_merged}
use Rattle.accumulators.proofs.Lookups.{there}

module _ {V O P S A : Type 0} (m : Model O P S A) where
  abbrev pub accepted : List (Accumulator V O P S A) → Told (List (Accumulator V O P S A))
  accepted row = record { answer = Ok tt; after = row }

  pub past_first : (row : List (Accumulator V O P S A)) (i j : ℕ) → length row ≤ i → board_merged m row i j (slice_get row i) (slice_get row j) ≡ record { answer = Err NoSuchSite; after = row }
  past_first row i j h = rw (slice_get_past row i h)

  none_second : (row : List (Accumulator V O P S A)) (i j : ℕ) (a : Option (Accumulator V O P S A)) → board_merged m row i j a None ≡ record { answer = Err NoSuchSite; after = row }
  none_second row i j None = refl
  none_second row i j (Some a) = refl

  pub past_second : (row : List (Accumulator V O P S A)) (i j : ℕ) → length row ≤ j → board_merged m row i j (slice_get row i) (slice_get row j) ≡ record { answer = Err NoSuchSite; after = row }
  past_second row i j h = rw (slice_get_past row j h) (none_second row i j (slice_get row i))

  pub same_site : (row : List (Accumulator V O P S A)) (i j : ℕ) → i < length row → j < length row → i ≡ j → board_merged m row i j (slice_get row i) (slice_get row j) ≡ record { answer = Err SameSite; after = row }
  same_site row i j h k e =
      let a = there row i h in
      let b = there row j k in
      rw (a.1, b.1, eq-eqb i j e)

  pub two_sites : (row : List (Accumulator V O P S A)) (i j : ℕ) (x y : Accumulator V O P S A) → i < length row → j < length row → (i ≡ j → ⊥) → board_merged m row i j (slice_get row i) (slice_get row j) ≡ accepted (set (set row j (with_partial (get_or row j y) None)) i (merged_into m (get_or (set row j (with_partial (get_or row j y) None)) i x) (get_or row j y).partial))
  two_sites row i j x y h k ne =
      rw (slice_get-get_or row i x h, slice_get-get_or row j y k, ne_eqb i j ne, get_or-set_other row j i (with_partial (get_or row j y) None) x ne)
