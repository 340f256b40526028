-- A loop over a column's stretches reaches the column's sum. Assumes nothing.
use Rattle.std.proofs.Common.{◌≡◌, ℕ, zero, suc, ◌+◌, ◌-◌, ◌<◌, ◌≤◌, Bool, true, false, cond, not, ◌&&◌, ltb, [], ◌∷◌, is_some as option_is_some, Some, None, Option, unwrap_or, refl, ap, ◌∙◌, ⊎_elim, arith, ne_eqb}
use Rattle.std.proofs.lemmas.Grind.{common_steps}
use Rattle.std.proofs.lemmas.Bool.{cases_eq, cases_lt, lt-ltb}
use Rattle.dtype.specs.declared.ptype.Family.{Family}
use Rattle.dtype.specs.declared.value.Value.{Value}
use Rattle.dtype.specs.declared.value.Value.TheVariants as v
use Rattle.dtype.specs.Types.{family_of, narrow}
use Rattle.sums.specs.declared.state.SumState.{SumState}
use Rattle.columns.specs.declared.bitmap.Stretch.{Stretch}
use Rattle.columns.specs.States.{add_stretches}
use Rattle.columns.specs.Columns.{Meaning, Proper, valid, some, lead, stretches_from, run_from, whole_sum, stretch_sum, stretch_sum_by}
use Rattle.columns.specs.Stretches.{begins, NoneFrom, IsRun, Found}
use Rattle.column_sums.proofs.Entries.{none_stays}
use Rattle.column_sums.specs.ColumnSums.{column_sum, column_sum_by, add_from, add_from_by}

-- no run goes on into entry i
abbrev pub Fresh : (ℕ → Bool) → ℕ → Type 0
Fresh w i = (0 < i) → w i ≡ true → w (i - 1) ≡ false

pub is_some : (o : Option Value) → option_is_some o ≡ true → o ≡ Some (unwrap_or o (v.U8 0))
is_some None h = absurd cc
is_some (Some x) h = refl

is_none : (o : Option Value) → option_is_some o ≡ false → o ≡ None
is_none None h = refl
is_none (Some x) h = absurd cc

module _ (w : ℕ → Bool) where
  pub first_null : (i : ℕ) → Fresh w i → begins w i ≡ false → w i ≡ false
  first_null zero f b = grind (arith, common_steps)
  first_null (suc i) f b = let g = f (omega arith) in grind (arith, common_steps)

  -- after a null a run may start
  after_null : (i : ℕ) → w i ≡ false → Fresh w (suc i)
  after_null i e h t = ap w (omega arith) ∙ e

  pub no_next : (n s e : ℕ) → IsRun w n s e → (some (n - e) && w e) ≡ false
  no_next n s e r = go (n - e) refl
    where
      go : (m : ℕ) → n - e ≡ m → (some m && w e) ≡ false
      go zero h = refl
      go (suc m) h = r.ended (omega arith)

module _ (entry : ℕ → Option Value) where
  abbrev there : ℕ → Bool
  there i = option_is_some (entry i)

  -- entries without a start are passed over
  pub passed : (gap i s m n : ℕ) → s ≡ i + gap → n ≡ gap + m → Fresh there i → NoneFrom there i s → stretches_from entry i n ≡ stretches_from entry s m
  passed zero i s m n se ne f none =
      let a : i ≡ s = omega arith in
      let b : n ≡ m = omega arith in
      λ j. stretches_from entry (a j) (b j)
  passed (suc gap) i s m zero se ne f none = absurd (omega arith)
  passed (suc gap) i s m (suc n) se ne f none =
      let here : there i ≡ false = first_null there i f (none i (omega arith) (omega arith)) in
      let null = is_none (entry i) here in
      let rest = passed gap (suc i) s m n (omega arith) (omega arith) (after_null there i here) (λ k a b. none k (omega arith) b) in
      cc

  pub stops : (e m : ℕ) → (some m && there e) ≡ false → run_from entry e m ≡ []
  stops e zero h = refl
  stops e (suc m) h = ap (λ o. lead o (run_from entry (suc e) m)) (is_none (entry e) h)

  -- a run is the first stretch
  pub run_first : (l s e m n : ℕ) → e ≡ s + suc l → n ≡ suc l + m → ((k : ℕ) → s ≤ k → k < e → there k ≡ true) → (some m && there e) ≡ false
      → stretches_from entry s n ≡ run_from entry s n ∷ stretches_from entry e m
  run_first l s e m zero ee ne all end = absurd (omega arith)
  run_first zero s e m (suc n) ee ne all end =
      let a : suc s ≡ e = omega arith in
      let b : n ≡ m = omega arith in
      let next : (some n && there (suc s)) ≡ false = (λ j. some (b j) && there (a j)) ∙ end in
      let x = is_some (entry s) (all s (omega arith) (omega arith)) in
      let none = stops (suc s) n next in
      cc
  run_first (suc l) s e m (suc zero) ee ne all end = absurd (omega arith)
  run_first (suc l) s e m (suc (suc n)) ee ne all end =
      let rest = run_first l (suc s) e m (suc n) (omega arith) (omega arith) (λ k a b. all k (omega arith) b) end in
      let x = is_some (entry s) (all s (omega arith) (omega arith)) in
      let more = all (suc s) (omega arith) (omega arith) in
      cc

-- ---- a constant has one stretch, of all its entries
module _ (c : Meaning) (skip : Bool) (good : Proper c) where
  abbrev mine : Family
  mine = family_of c.dtype.ptype

  abbrev small : Bool
  small = narrow c.dtype.ptype

  same_valid : c.constant ≡ true → (i : ℕ) → i < c.len → valid c i ≡ valid c 0
  same_valid k i h = ap option_is_some (good.same k i h)

  -- it starts at 0 and ends at the end
  pub whole_start : c.constant ≡ true → (s e : ℕ) → begins (valid c) s ≡ true → IsRun (valid c) c.len s e → s ≡ 0
  whole_start k s e b r =
      ⊎_elim (λ z. z) (λ z. let l = late z in absurd cc) (cases_eq s 0)
    where
      late : (s ≡ 0 → ⊥) → begins (valid c) s ≡ false
      late z =
          let less = r.some in
          let top = r.within in
          let here = r.filled s (omega arith) (omega arith) in
          let p = same_valid k (s - 1) (omega arith) in
          let q = same_valid k s (omega arith) in
          let before : valid c (s - 1) ≡ true = cc in
          λ i. here i && cond (ne_eqb s 0 z i) true (not (before i))

  pub whole_end : c.constant ≡ true → (s e : ℕ) → IsRun (valid c) c.len s e → e ≡ c.len
  whole_end k s e r =
      ⊎_elim early (λ high. let top = r.within in omega arith) (cases_lt e c.len)
    where
      early : e < c.len → e ≡ c.len
      early low =
          let less = r.some in
          let a = same_valid k e low in
          let b = same_valid k s (omega arith) in
          let f = r.filled s (omega arith) less in
          let n = r.ended low in
          absurd cc

  past : (i : ℕ) (q : Option SumState) → 0 < i → add_from_by true c skip i q ≡ q
  past zero q h = absurd (omega arith)
  past (suc i) q h = refl

  next_by : (b : Bool) → c.constant ≡ b → (from : ℕ) (s : Stretch) (st : SumState) → (from < c.len → Fresh (valid c) from) → Found (valid c) c.len from s
      → add_from_by b c skip from (Some st) ≡ add_from_by b c skip s.end (stretch_sum_by b c skip s.start st)
  next_by true k from s st f h =
      let r = h.run in
      let less = r.some in
      let late = h.late in
      let a : s.start ≡ 0 = whole_start k s.start s.end h.starts r in
      let z : from ≡ 0 = omega arith in
      let rest = past s.end (stretch_sum_by true c skip s.start st) (omega arith) in
      cc
  next_by false k from s st f h =
      let r = h.run in
      let less = r.some in
      let top = r.within in
      let late = h.late in
      let low : s.start < c.len = omega arith in
      let over = passed c.entry (s.start - from) from s.start (c.len - s.start) (c.len - from) (omega arith) (omega arith) (f (omega arith)) h.first in
      let one = run_first c.entry (s.end - s.start - 1) s.start s.end (c.len - s.end) (c.len - s.start) (omega arith) (omega arith) r.filled (no_next (valid c) c.len s.start s.end r) in
      let flag : (ltb s.start c.len && begins (valid c) s.start) ≡ true = (λ i. lt-ltb s.start c.len low i && h.starts i) in
      rw (over, one, flag) refl

  -- one stretch found and added
  pub add_next : (from : ℕ) (s : Stretch) (st : SumState) → (from < c.len → Fresh (valid c) from) → Found (valid c) c.len from s
      → add_from c skip from (Some st) ≡ add_from c skip s.end (stretch_sum c skip s.start st)
  add_next from s st f h = next_by c.constant refl from s st f h

  -- after a run no run goes on
  pub fresh_end : (s e : ℕ) → IsRun (valid c) c.len s e → e < c.len → Fresh (valid c) e
  fresh_end s e r low h t = let n = r.ended low in absurd cc

  none_by_rest : (b : Bool) (from : ℕ) → add_from_by b c skip from None ≡ None
  none_by_rest true zero = refl
  none_by_rest true (suc i) = refl
  none_by_rest false from = none_stays mine small skip (stretches_from c.entry from (c.len - from))

  -- after an overflow nothing more is added
  pub overflow_stays : (from : ℕ) → add_from c skip from None ≡ None
  overflow_stays from = none_by_rest c.constant from

  nothing_whole : (o : Option Value) (n : ℕ) (st : SumState) → (0 < n → option_is_some o ≡ false) → whole_sum mine skip o n st ≡ Some st
  nothing_whole None n st h = refl
  nothing_whole (Some x) zero st h = refl
  nothing_whole (Some x) (suc n) st h = let e = h (omega arith) in absurd cc

  none_by : (b : Bool) (from : ℕ) (st : SumState) → (from < c.len → Fresh (valid c) from) → NoneFrom (valid c) from c.len → add_from_by b c skip from (Some st) ≡ Some st
  none_by true zero st f h = nothing_whole (c.entry 0) c.len st (λ low. first_null (valid c) 0 (f low) (h 0 (omega arith) low))
  none_by true (suc i) st f h = refl
  none_by false from st f h =
      ap (λ ss. add_stretches mine small skip ss (Some st))
      (⊎_elim (λ low. passed c.entry (c.len - from) from c.len 0 (c.len - from) (omega arith) (omega arith) (f low) h)
      (λ high. let z : c.len - from ≡ 0 = omega arith in ap (stretches_from c.entry from) z)
      (cases_lt from c.len))

  -- no stretch is left
  pub add_none : (from : ℕ) (st : SumState) → (from < c.len → Fresh (valid c) from) → NoneFrom (valid c) from c.len → add_from c skip from (Some st) ≡ Some st
  add_none from st f h = none_by c.constant from st f h

  start_by : (b : Bool) (st : SumState) → add_from_by b c skip 0 (Some st) ≡ column_sum_by mine small b c skip st
  start_by true st = refl
  start_by false st = let z : c.len - 0 ≡ c.len = omega arith in ap (λ n. add_stretches mine small skip (stretches_from c.entry 0 n) (Some st)) z

  -- from the first entry on it is the column's sum
  pub add_start : (st : SumState) → add_from c skip 0 (Some st) ≡ column_sum c skip st
  add_start st = start_by c.constant st
