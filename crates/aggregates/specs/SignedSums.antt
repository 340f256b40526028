-- Sum at the signed types: a number is the exact total, and null comes only with a null or past the limits. Assumes nothing.
use Rattle.std.specs.Prelude.{◌≡◌, ◌+◌, Bool, true, false, List, [], ◌∷◌, ◌++◌, ℤ, pos, ◌+ℤ◌, Some, None, Option, refl}
use Rattle.std.proofs.Common.{sym, inl, inr, arith}
use Rattle.std.specs.Option.{option_map}
use Rattle.std.proofs.lemmas.List.Sums.{sum_by-append}
use Rattle.std.proofs.lemmas.Int.{ints}
use Rattle.dtype.specs.declared.ptype.Family.TheVariants as family
use Rattle.dtype.specs.declared.scalar.Scalar.{Scalar}
use Rattle.dtype.specs.declared.value.Value.{Value}
use Rattle.dtype.specs.declared.value.Value.TheVariants as v
use Rattle.dtype.specs.Values.{int_of}
use Rattle.sums.specs.declared.state.SumState.{SumState}
use Rattle.sums.specs.declared.state.SumState.TheVariants.{Unsigned, Signed, Float as Floating}
use Rattle.sums.specs.States.{value_of}
use Rattle.sums.specs.Sums.{signed64, checked, step, above, below}
use Rattle.sums.proofs.SignedTotals.{total-++, total_hi, total_lo, Out, In, step_in, checked_out}
use Rattle.columns.specs.Columns.{Meaning}
use Rattle.columns.specs.States.{onto}
use Rattle.column_sums.specs.ColumnSums.{column_sum_by}
use Rattle.column_sums.specs.Lots.{Lot, int_total, lots_by}
use Rattle.column_sums.proofs.SignedColumns.{Runs, column_adds_signed}
use Rattle.aggregates.specs.Sheets.{handed, Sheet, lots, Reordered}
use Rattle.aggregates.specs.SumModel.{SignedAllowed, OfFamily}
use Rattle.aggregates.specs.SumStates.{merged_states, taken_in, full}
use Rattle.aggregates.specs.Totals.{int_item, signed_total, positives, negatives, holds_null}
use Rattle.aggregates.specs.SheetTotals.{lots_sum, lots_total, null_lots, null_left, null_right, null_neither, reordered_sum, reordered_total, reordered_null}

sheet_in : (s : Sheet Scalar) (a : ℤ) → a ≡ signed_total s → signed64.fits a ≡ true → In (positives s) (negatives s) (signed_total s) (Some a)
sheet_in s a e f = record { hi = total_hi int_item s; lo = total_lo int_item s; out = (e, f) }

out_allowed : (s : Sheet Scalar) (o : Option ℤ) → holds_null s ≡ false → Out (positives s) (negatives s) (signed_total s) o → SignedAllowed s (option_map Signed o)
out_allowed s None n h = inr h
out_allowed s (Some t) n h = (n, h.0, h.1)

joined_allowed : (s t : Sheet Scalar) (p : Option SumState) → holds_null (s ++ t) ≡ false → Runs (positives s + positives t) (negatives s + negatives t) (signed_total s +ℤ signed_total t) p → SignedAllowed (s ++ t) p
joined_allowed s t p n h =
    let inside : In (positives (s ++ t)) (negatives (s ++ t)) (signed_total (s ++ t)) h.now = rw (sum_by-append (λ x. above (int_item x)) s t, sum_by-append (λ x. below (int_item x)) s t, total-++ int_item s t) h.inside in
    rw h.is (out_allowed (s ++ t) h.now n inside.out)

-- null stays allowed, whatever is added on either side
stays_null : (s t : Sheet Scalar) → SignedAllowed s None → SignedAllowed (s ++ t) None
stays_null s t h = grind (arith, null_left, sum_by-append (λ x. above (int_item x)) s t, sum_by-append (λ x. below (int_item x)) s t)

comes_null : (s t : Sheet Scalar) → SignedAllowed t None → SignedAllowed (s ++ t) None
comes_null s t h = grind (arith, null_right, sum_by-append (λ x. above (int_item x)) s t, sum_by-append (λ x. below (int_item x)) s t)

pub signed_adds : (small b skip : Bool) (c : Meaning) (s : Sheet Scalar) (p : Option SumState) → SignedAllowed s p → SignedAllowed (s ++ lots (lots_by b c)) (onto (column_sum_by family.Signed small b c skip) p)
signed_adds small b skip c s None h = stays_null s (lots (lots_by b c)) h
signed_adds small b skip c s (Some (Unsigned a)) h = absurd h
signed_adds small b skip c s (Some (Floating a)) h = absurd h
signed_adds small b skip c s (Some (Signed a)) h =
    let ls = lots_by b c in
    let r = column_adds_signed small b skip c (positives s) (negatives s) (signed_total s) a (sheet_in s a h.1 h.2) in
    joined_allowed s (lots ls) (column_sum_by family.Signed small b c skip (Signed a)) (null_neither s (lots ls) h.0 (null_lots ls))
    (record {
      now = r.now;
      is = r.is;
      inside = rw (lots_sum (λ x. above (int_item x)) ls, lots_sum (λ x. below (int_item x)) ls, lots_total int_item ls) r.inside;
    })

pub signed_belongs : (s : Sheet Scalar) (p : Option SumState) → SignedAllowed s p → OfFamily family.Signed p
signed_belongs s p h = grind arith

pub signed_joins : (s t : Sheet Scalar) (p q : Option SumState) → SignedAllowed s p → SignedAllowed t q → SignedAllowed (s ++ t) (merged_states p q)
signed_joins s t None q h k = stays_null s t h
signed_joins s t (Some (Unsigned a)) q h k = absurd h
signed_joins s t (Some (Floating a)) q h k = absurd h
signed_joins s t (Some (Signed a)) None h k = comes_null s t k
signed_joins s t (Some (Signed a)) (Some (Unsigned b)) h k = absurd k
signed_joins s t (Some (Signed a)) (Some (Floating b)) h k = absurd k
signed_joins s t (Some (Signed a)) (Some (Signed b)) h k =
    joined_allowed s t (option_map Signed (step signed64 (Some a) b)) (null_neither s t h.0 k.0)
    (record {
      now = step signed64 (Some a) b;
      is = refl;
      inside = rw k.1
          (step_in (positives s) (negatives s) (positives t) (negatives t) (signed_total s) (signed_total t) (Some a) (total_hi int_item t) (total_lo int_item t) (sheet_in s a h.1 h.2));
    })

-- a number by itself
taken_allowed : (s : Sheet Scalar) (z : ℤ) → holds_null s ≡ false → z ≡ signed_total s → SignedAllowed s (option_map Signed (checked signed64 z))
taken_allowed s z n e =
    rw e (out_allowed s (checked signed64 (signed_total s)) n (checked_out (positives s) (negatives s) (signed_total s) (total_hi int_item s) (total_lo int_item s)))

pub signed_hands : (x : Scalar) (o : Option Value) → x.value ≡ o → SignedAllowed (handed x ∷ []) (taken_in family.Signed o)
signed_hands x None e = inl (rw e)
signed_hands x (Some y) e = taken_allowed (handed x ∷ []) (int_of y) (rw e) (rw e (omega (arith, ints)))

pub signed_stays : (s t : Sheet Scalar) (p : Option SumState) → full p ≡ true → SignedAllowed s p → SignedAllowed (s ++ t) p
signed_stays s t p f h = grind (arith, stays_null s t)

pub signed_returns : (a : ℤ) → signed64.fits a ≡ true → taken_in family.Signed (Some (v.I64 a)) ≡ Some (Signed a)
signed_returns a b = rw b

pub signed_reordered : (s t : Sheet Scalar) (p : Option SumState) → Reordered s t → SignedAllowed s p → SignedAllowed t p
signed_reordered s t None r h = grind (arith, reordered_null r, reordered_sum (λ x. above (int_item x)) r, reordered_sum (λ x. below (int_item x)) r)
signed_reordered s t (Some st) r h = grind (arith, reordered_null r, reordered_total int_item r)

-- a cached sum of the right amount is allowed for the lots
pub signed_cached : (ls : List Lot) (o : Option Value) → o ≡ Some (v.I64 (int_total ls)) → SignedAllowed (lots ls) (taken_in family.Signed o)
signed_cached ls o e =
    rw e (taken_allowed (lots ls) (int_total ls) (null_lots ls) (sym (lots_total int_item ls)))

-- a partial that is a number, where lots alone came
amount : (ls : List Lot) (st : SumState) → SignedAllowed (lots ls) (Some st) → Some (value_of st) ≡ Some (v.I64 (int_total ls))
amount ls st h = grind (arith, lots_total int_item ls)

pub signed_written : (small b skip : Bool) (c : Meaning) (st : SumState) → column_sum_by family.Signed small b c skip (Signed (pos 0)) ≡ Some st → Some (value_of st) ≡ Some (v.I64 (int_total (lots_by b c)))
signed_written small b skip c st e = amount (lots_by b c) st (rw e at (signed_adds small b skip c [] (Some (Signed (pos 0))) (refl, refl, refl)))
