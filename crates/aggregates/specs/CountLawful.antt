-- Count keeps every law of an aggregate. Assumes nothing.
use Rattle.std.specs.Prelude.{◌≡◌, ℕ, ◌+◌, Bool, true, false, cond, ◌⊎◌, ◌++◌, Some, None, Option, refl}
use Rattle.std.proofs.Common.{sym, ap, ◌∙◌, inl, arith}
use Rattle.std.proofs.lemmas.List.Sums.{sum_by-append}
use Rattle.std.proofs.lemmas.Bool.Decides.{nat_tests}
use Rattle.dtype.specs.declared.ptype.DType.{DType}
use Rattle.dtype.specs.declared.scalar.Scalar.{Scalar}
use Rattle.dtype.specs.declared.statistics.Statistics.{Statistics}
use Rattle.dtype.specs.declared.value.Value.{Value}
use Rattle.dtype.specs.Same.{same_dtype, type_same}
use Rattle.dtype.specs.Types.{has_same_type}
use Rattle.sums.specs.Sums.{unsigned64, checked, step}
use Rattle.sums.proofs.Products.{checked_within}
use Rattle.columns.specs.Columns.{Meaning, Proper}
use Rattle.column_sums.specs.Counts.{column_count}
use Rattle.column_sums.specs.Lots.{column_lots}
use Rattle.column_sums.specs.Records.{Truthful}
use Rattle.aggregates.specs.declared.count.CountPartial.{CountPartial}
use Rattle.aggregates.specs.Sheets.{Sheet, lots}
use Rattle.aggregates.specs.Model.{Lawful, Holds, Accepted, column_step, started}
use Rattle.aggregates.specs.SumStates.{is_null}
use Rattle.aggregates.specs.Totals.{nat_in, count_item, count_total, holds_null}
use Rattle.aggregates.specs.CountModel.{counting, count_dtype, scalar_of_count, merged_counts, taken_count, exact_count, CountFits, count_model}
use Rattle.aggregates.specs.SheetTotals.{lots_sum, null-++, null_more, reordered_sum, reordered_null}

-- ---- counts that are null past 2^64 - 1
null_merged : (q : Option ℕ) → merged_counts None q ≡ None
null_merged q = grind arith

merged_or_null : (a b : Bool) (m n : ℕ) → merged_counts (cond a None (checked unsigned64 m)) (cond b None (checked unsigned64 n)) ≡ cond (cond a true b) None (checked unsigned64 (m + n))
merged_or_null a b m n = grind (arith, nat_tests)

added_or_null : (a : Bool) (m n : ℕ) → step unsigned64 (cond a None (checked unsigned64 m)) n ≡ cond a None (checked unsigned64 (m + n))
added_or_null a m n = grind (arith, nat_tests)

-- ---- sheets
exact-++ : (s t : Sheet Scalar) → merged_counts (exact_count s) (exact_count t) ≡ exact_count (s ++ t)
exact-++ s t = rw (null-++ s t, sum_by-append count_item s t) (merged_or_null (holds_null s) (holds_null t) (count_total s) (count_total t))

-- a column's count is that of its lots
exact_more : (s : Sheet Scalar) (c : Meaning) → step unsigned64 (exact_count s) (column_count c) ≡ exact_count (s ++ lots (column_lots c))
exact_more s c =
    let ls = column_lots c in
    rw (null_more s ls, sum_by-append count_item s (lots ls), lots_sum count_item ls) (added_or_null (holds_null s) (count_total s) (column_count c))

taken_exact : (o : Option Value) → taken_count o ≡ cond (cond (is_null o) true false) None (checked unsigned64 (0 + nat_in o))
taken_exact o = grind (arith, nat_tests)

null_stays : (s t : Sheet Scalar) (q : Option ℕ) → is_null q ≡ true → q ≡ exact_count s → q ≡ exact_count (s ++ t)
null_stays s t None h e = cc (null_merged (exact_count t), exact-++ s t)
null_stays s t (Some n) h e = cc

null_either_side : (q r : Option ℕ) → (is_null q ≡ true) ⊎ (is_null r ≡ true) → is_null (merged_counts q r) ≡ true
null_either_side q r h = grind arith

takes_own : (q : Option ℕ) → has_same_type (scalar_of_count q).dtype count_dtype ≡ true
takes_own q = grind arith

reads_same : (q : Option ℕ) → CountFits q → scalar_of_count (taken_count (scalar_of_count q).value) ≡ scalar_of_count q
reads_same None h = refl
reads_same (Some n) h = ap scalar_of_count (sym (checked_within n h))

-- ---- a column
begins_exact : (o : Unit {0}) (d : DType) (s : Sheet Scalar) (q : Option CountPartial) → Holds count_model o d s q → (started count_model o d q).current ≡ exact_count s
begins_exact o d s None e = ap exact_count (sym e)
begins_exact o d s (Some q) e = e

adds_lots : (o : Unit {0}) (d : DType) (c : Meaning) (k : Statistics) (s : Sheet Scalar) (q : Option CountPartial) → c.dtype ≡ d → Proper c → Truthful c k → Holds count_model o d s q → Accepted count_model o d c k s (column_step count_model o d c k q)
adds_lots o d c k s q e good truth h = record {
  answered = refl;
  truthful = truth;
  gains = record { nans = refl; sum = inl refl };
  after = counting (step unsigned64 (started count_model o d q).current (column_count c));
  holds = refl;
  allowed = rw (begins_exact o d s q h) (exact_more s c);
}

pub count_lawful : Lawful count_model
count_lawful = record {
  takes_its_dtype = λ o d x e. type_same x.dtype count_dtype e;
  takes_no_other = λ o d x h. same_dtype x.dtype count_dtype h;
  allowed_belongs = λ o d s q e. rw e (grind (arith, nat_tests));
  empty_allowed = λ o d. refl;
  empty_not_saturated = λ o d. refl;
  merging_adds_sheets = λ o d s t q r e f. rw (e, f) (exact-++ s t);
  accumulating_adds_lots = adds_lots;
  scalar_allowed = λ o d x h. taken_exact x.value;
  saturated_stays_allowed = λ o d s q ls. null_stays s (lots ls) q.current;
  merging_saturates = λ o d q r a b h. null_either_side q.current r.current h;
  reads_again = λ o d q b. record { taken = takes_own q.current; scalar = reads_same q.current b; answer = reads_same q.current b };
  order_does_not_count = λ o d s t q r e. e ∙ (λ i. cond (reordered_null r i) None (checked unsigned64 (reordered_sum count_item r i)));
}
