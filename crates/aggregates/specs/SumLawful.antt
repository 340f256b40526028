-- Sum keeps every law of an aggregate, at all three families. Assumes nothing.
use Rattle.std.specs.Prelude.{◌≡◌, ℕ, zero, suc, Bool, true, false, [], ◌∷◌, ◌++◌, Some, None, Ok, Option, refl, IsTrue, ◌↔◌}
use Rattle.std.proofs.Common.{sym, ap, subst, inl, inr, eq-eqb, arith}
use Rattle.std.proofs.Math.Bool.{beq}
use Rattle.std.specs.Cmp.{booleans_Decides}
use Rattle.std.specs.Option.{option_map}
use Rattle.std.proofs.lemmas.Bool.Decides.{Decides-like}
use Rattle.dtype.specs.declared.ptype.DType.{DType}
use Rattle.dtype.specs.declared.ptype.Family.{Family}
use Rattle.dtype.specs.declared.ptype.Family.TheVariants as family
use Rattle.dtype.specs.declared.precision.Precision.{Precision}
use Rattle.dtype.specs.declared.precision.Precision.TheVariants.{Exact, Inexact, Absent}
use Rattle.dtype.specs.declared.scalar.Scalar.{Scalar}
use Rattle.dtype.specs.declared.statistics.Statistics.{Statistics}
use Rattle.dtype.specs.declared.value.Value.{Value}
use Rattle.dtype.specs.Same.{same_dtype, type_same}
use Rattle.dtype.specs.Types.{code_of, family_of, narrow, sum_ptype, dtype_of_sum, has_same_type}
use Rattle.sums.specs.declared.state.SumState.{SumState}
use Rattle.sums.specs.declared.state.SumState.TheVariants.{Float as Floating}
use Rattle.sums.specs.States.{nan_pattern, zero_of, value_of}
use Rattle.columns.specs.Columns.{Meaning, Proper}
use Rattle.columns.specs.States.{onto}
use Rattle.column_sums.specs.ColumnSums.{column_sum, column_sum_by}
use Rattle.column_sums.specs.Lots.{lots_by, column_lots}
use Rattle.column_sums.specs.Records.{RightAmount, RightSum, Truthful}
use Rattle.column_sums.proofs.FloatColumns.{zero_canonical}
use Rattle.aggregates.specs.declared.sum_partial.NumericalAggregateOpts.{NumericalAggregateOpts}
use Rattle.aggregates.specs.declared.sum_partial.SumPartial.{SumPartial}
use Rattle.aggregates.specs.Sheets.{Sheet, handed, lots, Reordered}
use Rattle.aggregates.specs.Model.{Batch, Lawful, Holds, Step, Accepted, Gains, column_step, step_by, through_cache, cached_step, gathered}
use Rattle.aggregates.specs.SumModel.{sum_model, summed, holding, OfFamily, Allowed, wrote_state, cached_sum_fits, scalar_of_state, scalar_of, without_nans, by_nan_count, keeping_nans, sum_batch}
use Rattle.aggregates.specs.SumStates.{merged_states, taken_in, full}
use Rattle.aggregates.specs.UnsignedSums.{unsigned_joins, unsigned_adds, unsigned_belongs, unsigned_hands, unsigned_stays, unsigned_returns, unsigned_reordered, unsigned_cached, unsigned_written}
use Rattle.aggregates.specs.SignedSums.{signed_joins, signed_adds, signed_belongs, signed_hands, signed_stays, signed_returns, signed_reordered, signed_cached, signed_written}
use Rattle.aggregates.specs.FloatSums.{float_adds, float_joins, float_taken, full_either_side, nan_canonical}

-- ---- by family
belongs : (g : Family) (s : Sheet Scalar) (q : Option SumState) → Allowed g s q → OfFamily g q
belongs family.Unsigned s q h = unsigned_belongs s q h
belongs family.Signed s q h = signed_belongs s q h
belongs family.Float s q h = h

starts : (g : Family) → Allowed g [] (Some (zero_of g))
starts family.Unsigned = refl
starts family.Signed = (refl, refl, refl)
starts family.Float = zero_canonical

not_full : (g : Family) → full (Some (zero_of g)) ≡ false
unfolding lib.Ieee.of_bits lib.Ieee.is_nan
not_full family.Unsigned = refl
not_full family.Signed = refl
not_full family.Float = refl

joins : (g : Family) (s t : Sheet Scalar) (q r : Option SumState) → Allowed g s q → Allowed g t r → Allowed g (s ++ t) (merged_states q r)
joins family.Unsigned s t q r h k = unsigned_joins s t q r h k
joins family.Signed s t q r h k = signed_joins s t q r h k
joins family.Float s t q r h k = float_joins q r h k

adds : (g : Family) (small b skip : Bool) (c : Meaning) (s : Sheet Scalar) (q : Option SumState) → Allowed g s q → Allowed g (s ++ lots (lots_by b c)) (onto (column_sum_by g small b c skip) q)
adds family.Unsigned small b skip c s q h = unsigned_adds small b skip c s q h
adds family.Signed small b skip c s q h = signed_adds small b skip c s q h
adds family.Float small b skip c s q h = float_adds small b skip c q h

hands : (g : Family) (x : Scalar) → Allowed g (handed x ∷ []) (taken_in g x.value)
hands family.Unsigned x = unsigned_hands x.value
hands family.Signed x = signed_hands x x.value refl
hands family.Float x = float_taken x.value

stays : (g : Family) (s t : Sheet Scalar) (q : Option SumState) → full q ≡ true → Allowed g s q → Allowed g (s ++ t) q
stays family.Unsigned s t q f h = unsigned_stays s t q f h
stays family.Signed s t q f h = signed_stays s t q f h
stays family.Float s t q f h = h

reordered : (g : Family) (s t : Sheet Scalar) (q : Option SumState) → Reordered s t → Allowed g s q → Allowed g t q
reordered family.Unsigned s t q r h = unsigned_reordered s t q r h
reordered family.Signed s t q r h = signed_reordered s t q r h
reordered family.Float s t q r h = h

-- a cached sum of the right amount is allowed for the column's lots
cached : (g : Family) (c : Meaning) (o : Option Value) → RightAmount g c o → Allowed g (lots (column_lots c)) (taken_in g o)
cached family.Unsigned c o e = unsigned_cached (column_lots c) o e
cached family.Signed c o e = signed_cached (column_lots c) o e
cached family.Float c o e = float_taken o

-- what is written has the right amount; e and f are one fact where g is the column's family
written : (g : Family) (small : Bool) (c : Meaning) (st : SumState) → column_sum c true (zero_of g) ≡ Some st → column_sum_by g small c.constant c true (zero_of g) ≡ Some st → RightAmount g c (Some (value_of st))
written family.Unsigned small c st e f = unsigned_written small c.constant true c st f
written family.Signed small c st e f = signed_written small c.constant true c st f
written family.Float small c st e f = sym (ap (option_map value_of) e)

state_type : (g : Family) (st : SumState) → OfFamily g (Some st) → (scalar_of_state st).dtype ≡ record { ptype = sum_ptype g; nullable = true }
state_type g st h = grind arith

state_value : (st : SumState) → Some (value_of st) ≡ (scalar_of_state st).value
state_value st = grind arith

takes_own : (d : DType) (q : Option SumState) → OfFamily (family_of d.ptype) q → has_same_type (scalar_of d q).dtype (dtype_of_sum d) ≡ true
takes_own d None h = type_same (dtype_of_sum d) (dtype_of_sum d) refl
takes_own d (Some st) h = type_same (scalar_of_state st).dtype (dtype_of_sum d) (state_type (family_of d.ptype) st h)

taken_again : (g : Family) (st : SumState) → OfFamily g (Some st) → taken_in g (scalar_of_state st).value ≡ Some st
taken_again g st h = grind (arith, unsigned_returns, signed_returns)

reads_same : (g : Family) (d : DType) (q : Option SumState) → OfFamily g q → scalar_of d (taken_in g (scalar_of d q).value) ≡ scalar_of d q
reads_same g d None h = refl
reads_same g d (Some st) h = rw (taken_again g st h)

-- ---- the steps at a column of the aggregate's dtype, with a truthful record
module _ (skip : Bool) (c : Meaning) (k : Statistics) (s : Sheet Scalar) (truth : Truthful c k) where
  abbrev opts : NumericalAggregateOpts
  opts = record { skip_nans = skip }

  abbrev Done : Step SumPartial → Type 0
  Done r = Accepted sum_model opts c.dtype c k s r

  abbrev mine : Family
  mine = family_of c.dtype.ptype

  abbrev Ends : Option SumState → Type 0
  Ends q = Allowed mine (s ++ lots (column_lots c)) q

  abbrev Holding : Option SumPartial → Type 0
  Holding q = Holds sum_model opts c.dtype s q

  done : (k' : Statistics) (q : Option SumState) → Truthful c k' → Gains c k k' → Ends q → Done (record { answer = Ok tt; stats = k'; partial = Some (holding q) })
  done k' q t g h = record { answered = refl; truthful = t; gains = g; after = holding q; holds = refl; allowed = h }

  unchanged : (q : Option SumState) → Ends q → Done (record { answer = Ok tt; stats = k; partial = Some (holding q) })
  unchanged q h = done k q truth (record { nans = refl; sum = inl refl }) h

  -- a truthful cached sum is never refused
  fits_cached : (x : Scalar) → RightSum c x → cached_sum_fits c.dtype x ≡ true
  fits_cached x r = eq-eqb (code_of x.dtype.ptype) (code_of (sum_ptype mine)) (ap code_of r.kind)

  gathers : (q : Option SumPartial) (r : Option SumState) → Holding q → Allowed mine (lots (column_lots c)) r → Ends (gathered sum_model opts c.dtype q (holding r)).current
  gathers None r e h = rw e h
  gathers (Some q) r a h = joins mine s (lots (column_lots c)) q.current r a h

  -- the column summed by itself
  alone : Allowed mine ([] ++ lots (column_lots c)) (column_sum c true (zero_of mine))
  alone = adds mine (narrow c.dtype.ptype) c.constant true c [] (Some (zero_of mine)) (starts mine)

  -- what is written tells the truth
  right : (st : SumState) → column_sum c true (zero_of mine) ≡ Some st → RightSum c (scalar_of_state st)
  right st e = record {
    kind = λ i. (state_type mine st (belongs mine ([] ++ lots (column_lots c)) (Some st) (rw e at alone)) i).ptype;
    amount = rw (state_value st) at (written mine (narrow c.dtype.ptype) c st e e);
  }

  writes_truth : (r : Option SumState) → column_sum c true (zero_of mine) ≡ r → Truthful c (wrote_state r k)
  writes_truth None e = truth
  writes_truth (Some st) e = record { sum = λ x w. let same : scalar_of_state st ≡ x = cc in subst (RightSum c) same (right st e); nans = truth.nans }

  writes_gain : (r : Option SumState) → column_sum c true (zero_of mine) ≡ r → Gains c k (wrote_state r k)
  writes_gain None e = record { nans = refl; sum = inl refl }
  writes_gain (Some st) e = record { nans = refl; sum = inr (scalar_of_state st, refl, right st e) }

  by_itself : (q : Option SumPartial) → Holding q → Done (record { answer = Ok tt; stats = wrote_state (column_sum c true (zero_of mine)) k; partial = Some (gathered sum_model opts c.dtype q (holding (column_sum c true (zero_of mine)))) })
  by_itself q h =
      let r = column_sum c true (zero_of mine) in
      done (wrote_state r k) (gathered sum_model opts c.dtype q (holding r)).current (writes_truth r refl) (writes_gain r refl) (gathers q r h alone)

  by_cached : (x : Scalar) (q : Option SumPartial) → RightSum c x → Holding q → Done (cached_step sum_model opts c.dtype k q (sum_model.from_sum opts c.dtype x))
  by_cached x q t h =
      rw (fits_cached x t)
      (unchanged (gathered sum_model opts c.dtype q (holding (taken_in mine x.value))).current (gathers q (taken_in mine x.value) h (cached mine c x.value t.amount)))

  -- ---- without skip_nans
  abbrev Straight : (b : Batch SumPartial) → Type 0
  Straight b = Done (record { answer = b.answer; stats = b.stats; partial = Some b.partial })

  straightly : (st : SumState) → Allowed mine s (Some st) → Straight (summed false c k st)
  straightly st h = unchanged (column_sum c false st) (adds mine (narrow c.dtype.ptype) c.constant false c s (Some st) h)

  without_nans_lem : (st : SumState) (x : Precision Scalar) → k.sum ≡ x → Allowed mine s (Some st) → Straight (without_nans c.dtype c k st x)
  without_nans_lem st (Exact x) e h =
      let t = truth.sum x e in
      rw (fits_cached x t)
      (unchanged (merged_states (Some st) (taken_in mine x.value)) (joins mine s (lots (column_lots c)) (Some st) (taken_in mine x.value) h (cached mine c x.value t.amount)))
  without_nans_lem st (Inexact x) e h = straightly st h
  without_nans_lem st Absent e h = straightly st h

  by_nan_count_lem : mine ≡ family.Float → (st : SumState) (x : Precision ℕ) → Allowed mine s (Some st) → Straight (by_nan_count c.dtype c k st x)
  by_nan_count_lem e st (Exact zero) h = without_nans_lem st k.sum refl h
  by_nan_count_lem e st (Exact (suc n)) h = unchanged (Some (Floating nan_pattern)) (rw e nan_canonical)
  by_nan_count_lem e st (Inexact n) h = straightly st h
  by_nan_count_lem e st Absent h = straightly st h

  keeping : (g : Family) → mine ≡ g → (st : SumState) → Allowed mine s (Some st) → Straight (keeping_nans g c.dtype c k st)
  keeping family.Unsigned e st h = straightly st h
  keeping family.Signed e st h = straightly st h
  keeping family.Float e st h = by_nan_count_lem e st k.nan_count h

-- by the option
skipping : (c : Meaning) (k : Statistics) (s : Sheet Scalar) (truth : Truthful c k) (q : Option SumPartial) (x : Precision Scalar) → k.sum ≡ x → Holding true c k s truth q
    → Done true c k s truth (through_cache sum_model (opts true c k s truth) c.dtype c k q x)
skipping c k s truth q (Exact x) e h = by_cached true c k s truth x q (truth.sum x e) h
skipping c k s truth q (Inexact x) e h = by_itself true c k s truth q h
skipping c k s truth q Absent e h = by_itself true c k s truth q h

keeps_state : (c : Meaning) (k : Statistics) (s : Sheet Scalar) (truth : Truthful c k) (q : Option SumState) → Allowed (family_of c.dtype.ptype) s q
    → Straight false c k s truth (sum_batch false c.dtype c k q)
keeps_state c k s truth None h = unchanged false c k s truth None (stays (family_of c.dtype.ptype) s (lots (column_lots c)) None refl h)
keeps_state c k s truth (Some st) h = keeping false c k s truth (family_of c.dtype.ptype) refl st h

keeps : (c : Meaning) (k : Statistics) (s : Sheet Scalar) (truth : Truthful c k) (q : Option SumPartial) → Holding false c k s truth q
    → Done false c k s truth (step_by sum_model (opts false c k s truth) c.dtype false c k q)
keeps c k s truth None e = keeps_state c k s truth (Some (zero_of (family_of c.dtype.ptype))) (rw e (starts (family_of c.dtype.ptype)))
keeps c k s truth (Some q) h = keeps_state c k s truth q.current h

by_option : (skip : Bool) (c : Meaning) (k : Statistics) (s : Sheet Scalar) (truth : Truthful c k) (q : Option SumPartial) → Holding skip c k s truth q
    → Done skip c k s truth (column_step sum_model (opts skip c k s truth) c.dtype c k q)
by_option true c k s truth q h = skipping c k s truth q k.sum refl h
by_option false c k s truth q h = keeps c k s truth q h

adds_lots : (o : NumericalAggregateOpts) (d : DType) (c : Meaning) (k : Statistics) (s : Sheet Scalar) (q : Option SumPartial) → c.dtype ≡ d → Proper c → Truthful c k → Holds sum_model o d s q → Accepted sum_model o d c k s (column_step sum_model o d c k q)
adds_lots o d c k s q e good truth =
    subst (λ (d : DType). Holds sum_model o d s q → Accepted sum_model o d c k s (column_step sum_model o d c k q)) e (by_option o.skip_nans c k s truth q)

-- `==` of options says whether they are equal
pub opts_told_apart : (a b : NumericalAggregateOpts) → IsTrue (beq a.skip_nans b.skip_nans) ↔ (a ≡ b)
opts_told_apart a b =
    Decides-like _ (λ e i. record { skip_nans = e i }) (λ e i. (e i).skip_nans) (booleans_Decides a.skip_nans b.skip_nans)

pub sum_lawful : Lawful sum_model
sum_lawful = record {
  takes_its_dtype = λ o d x e. type_same x.dtype (dtype_of_sum d) e;
  takes_no_other = λ o d x h. same_dtype x.dtype (dtype_of_sum d) h;
  allowed_belongs = λ o d s q. belongs (family_of d.ptype) s q.current;
  empty_allowed = λ o d. starts (family_of d.ptype);
  empty_not_saturated = λ o d. not_full (family_of d.ptype);
  merging_adds_sheets = λ o d s t q r. joins (family_of d.ptype) s t q.current r.current;
  accumulating_adds_lots = adds_lots;
  scalar_allowed = λ o d x h. hands (family_of d.ptype) x;
  saturated_stays_allowed = λ o d s q ls. stays (family_of d.ptype) s (lots ls) q.current;
  merging_saturates = λ o d q r a b h. full_either_side q.current r.current h;
  reads_again = λ o d q b. record {
    taken = takes_own d q.current b;
    scalar = reads_same (family_of d.ptype) d q.current b;
    answer = reads_same (family_of d.ptype) d q.current b;
  };
  order_does_not_count = λ o d s t q r. reordered (family_of d.ptype) s t q.current r;
}
