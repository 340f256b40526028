-- Sum at the unsigned types: a partial is null exactly where the sheet holds a null or its total exceeds 2^64 - 1. Assumes nothing.
use Rattle.std.specs.Prelude.{◌≡◌, ℕ, ◌+◌, ◌^◌, ◌<◌, Bool, true, false, cond, List, ◌++◌, Some, None, Option}
use Rattle.std.proofs.Common.{◌∙◌, arith}
use Rattle.std.proofs.lemmas.List.Sums.{sum_by-append}
use Rattle.std.proofs.lemmas.Bool.Decides.{nat_tests}
use Rattle.dtype.specs.declared.ptype.Family.TheVariants as family
use Rattle.dtype.specs.declared.scalar.Scalar.{Scalar}
use Rattle.dtype.specs.declared.value.Value.{Value}
use Rattle.dtype.specs.declared.value.Value.TheVariants as v
use Rattle.sums.specs.declared.state.SumState.{SumState}
use Rattle.sums.specs.declared.state.SumState.TheVariants.{Unsigned}
use Rattle.sums.specs.States.{value_of}
use Rattle.columns.specs.Columns.{Meaning}
use Rattle.columns.specs.States.{onto}
use Rattle.column_sums.specs.ColumnSums.{column_sum_by}
use Rattle.column_sums.specs.Lots.{Lot, nat_total, lots_by}
use Rattle.column_sums.proofs.UnsignedColumns.{capped_total, capped_within, column_adds_unsigned}
use Rattle.aggregates.specs.Sheets.{Sheet, lots, Reordered}
use Rattle.aggregates.specs.SumModel.{exactly, OfFamily}
use Rattle.aggregates.specs.SumStates.{merged_states, taken_in, full, is_null}
use Rattle.aggregates.specs.Totals.{nat_in, nat_item, total, holds_null}
use Rattle.aggregates.specs.SheetTotals.{lots_sum, null_lots, null-++, null_more, reordered_sum, reordered_null}

both : (a b : Bool) (m n : ℕ) → merged_states (cond a None (capped_total m)) (cond b None (capped_total n)) ≡ cond (cond a true b) None (capped_total (m + n))
both a b m n = grind (arith, nat_tests)

exactly-++ : (s t : Sheet Scalar) → merged_states (exactly s) (exactly t) ≡ exactly (s ++ t)
exactly-++ s t = rw (null-++ s t, sum_by-append nat_item s t) (both (holds_null s) (holds_null t) (total s) (total t))

exactly_lots : (ls : List Lot) → exactly (lots ls) ≡ capped_total (nat_total ls)
exactly_lots ls = rw (null_lots ls, lots_sum nat_item ls)

pub unsigned_joins : (s t : Sheet Scalar) (p q : Option SumState) → p ≡ exactly s → q ≡ exactly t → merged_states p q ≡ exactly (s ++ t)
unsigned_joins s t p q e f = rw (e, f) (exactly-++ s t)

pub unsigned_adds : (small b skip : Bool) (c : Meaning) (s : Sheet Scalar) (p : Option SumState) → p ≡ exactly s → onto (column_sum_by family.Unsigned small b c skip) p ≡ exactly (s ++ lots (lots_by b c))
unsigned_adds small b skip c s p e =
    let ls = lots_by b c in
    rw (e, null_more s ls, sum_by-append nat_item s (lots ls), lots_sum nat_item ls) (grind (arith, column_adds_unsigned small b skip c (total s)))

pub unsigned_belongs : (s : Sheet Scalar) (p : Option SumState) → p ≡ exactly s → OfFamily family.Unsigned p
unsigned_belongs s p e = rw e (grind (arith, nat_tests))

pub unsigned_hands : (o : Option Value) → taken_in family.Unsigned o ≡ cond (cond (is_null o) true false) None (capped_total (0 + nat_in o))
unsigned_hands o = grind (arith, nat_tests)

pub unsigned_stays : (s t : Sheet Scalar) (p : Option SumState) → full p ≡ true → p ≡ exactly s → p ≡ exactly (s ++ t)
unsigned_stays s t p h e = grind (arith, exactly-++ s t, unsigned_belongs s p e)

pub unsigned_returns : (a : ℕ) → a < 2 ^ 64 → taken_in family.Unsigned (Some (v.U64 a)) ≡ Some (Unsigned a)
unsigned_returns a h = capped_within a h

pub unsigned_reordered : (s t : Sheet Scalar) (p : Option SumState) → Reordered s t → p ≡ exactly s → p ≡ exactly t
unsigned_reordered s t p r e = e ∙ (λ i. cond (reordered_null r i) None (capped_total (reordered_sum nat_item r i)))

-- a cached sum of the right amount is allowed for the lots
pub unsigned_cached : (ls : List Lot) (o : Option Value) → o ≡ Some (v.U64 (nat_total ls)) → taken_in family.Unsigned o ≡ exactly (lots ls)
unsigned_cached ls o e = rw (e, exactly_lots ls)

-- the column's sum by itself has the right amount
pub unsigned_written : (small b skip : Bool) (c : Meaning) (st : SumState) → column_sum_by family.Unsigned small b c skip (Unsigned 0) ≡ Some st → Some (value_of st) ≡ Some (v.U64 (nat_total (lots_by b c)))
unsigned_written small b skip c st e = grind (arith, nat_tests, column_adds_unsigned small b skip c 0)
