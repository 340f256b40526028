-- A loop over a column's stretches reaches the number of its valid entries. Assumes nothing.
use Rattle.std.proofs.Common.{◌≡◌, ℕ, zero, suc, ◌+◌, ◌-◌, ◌<◌, ◌≤◌, Bool, true, false, ◌&&◌, eqb, List, [], ◌∷◌, length, is_some as option_is_some, Some, None, sum_by, Option, sym, refl, ap, ◌∙◌, ⊎_elim, arith}
use Rattle.std.proofs.lemmas.List.{length-append}
use Rattle.std.proofs.lemmas.List.Sums.{sum_by-cons}
use Rattle.std.proofs.lemmas.Bool.{cases_lt, cond_both, eqb-true}
use Rattle.dtype.specs.declared.value.Value.{Value}
use Rattle.columns.specs.declared.bitmap.Stretch.{Stretch}
use Rattle.columns.specs.Columns.{Meaning, Proper, valid, some, stretches_from, run_from}
use Rattle.columns.specs.Stretches.{NoneFrom, Found}
use Rattle.column_sums.specs.Lots.{Lot, single, values_from, whole_lot, lots_by}
use Rattle.column_sums.specs.Counts.{column_count}
use Rattle.column_sums.proofs.Entries.{flat, flat_stretches}
use Rattle.column_sums.proofs.Walks.{Fresh, is_some, first_null, no_next, passed, stops, run_first, whole_start, whole_end}

-- the entries of a constant, counted
abbrev pub whole_count : Option Value → ℕ → ℕ
whole_count o n = sum_by (λ (l : Lot). l.times) (whole_lot o n)

-- what a loop over the stretches has still to count from an entry on
abbrev pub count_from_by : Bool → Meaning → ℕ → ℕ
count_from_by true c zero = whole_count (c.entry 0) c.len
count_from_by true c (suc i) = 0
count_from_by false c from = length (values_from c.entry from (c.len - from))

abbrev pub count_from : Meaning → ℕ → ℕ
count_from c from = count_from_by c.constant c from

-- ---- a constant
all_count : (o : Option Value) (n : ℕ) → option_is_some o ≡ true → whole_count o n ≡ n
all_count None n h = absurd cc
all_count (Some x) n h =
    cond_both (eqb n 0) [] (record { value = x; times = n } ∷ []) (λ ls. sum_by (λ (l : Lot). l.times) ls ≡ n) (λ e. sym (eqb-true n 0 e)) (λ e. omega arith)

none_count : (o : Option Value) (n : ℕ) → (0 < n → option_is_some o ≡ false) → whole_count o n ≡ 0
none_count None n h = refl
none_count (Some x) zero h = refl
none_count (Some x) (suc n) h = (let e = h (omega arith) in absurd cc)

-- ---- entries one by one
single_length : (xs : List Value) → sum_by (λ (l : Lot). l.times) (single xs) ≡ length xs
single_length [] = refl
single_length (x ∷ xs) = omega (arith, sum_by-cons (λ (l : Lot). l.times) (record { value = x; times = 1 }) (single xs), single_length xs)

module _ (entry : ℕ → Option Value) where
  -- a run that ends at e is as long as it says
  run_length : (l s e m n : ℕ) → e ≡ s + l → n ≡ l + m → ((k : ℕ) → s ≤ k → k < e → option_is_some (entry k) ≡ true) → (some m && option_is_some (entry e)) ≡ false
      → length (run_from entry s n) ≡ l
  run_length zero s e m n ee ne all end =
      let a : s ≡ e = omega arith in
      let b : n ≡ m = omega arith in
      ap length (stops entry s n ((λ j. some (b j) && option_is_some (entry (a j))) ∙ end))
  run_length (suc l) s e m zero ee ne all end = absurd (omega arith)
  run_length (suc l) s e m (suc n) ee ne all end =
      let first = is_some (entry s) (all s (omega arith) (omega arith)) in
      let rest = run_length l (suc s) e m n (omega arith) (omega arith) (λ k a b. all k (omega arith) b) end in
      cc

  -- the valid entries are counted over the stretches
  flat_length : (i n : ℕ) → length (values_from entry i n) ≡ length (flat (stretches_from entry i n))
  flat_length i n = ap length (sym (flat_stretches entry i n))

module _ (c : Meaning) (good : Proper c) where
  next_by : (b : Bool) → c.constant ≡ b → (from : ℕ) (s : Stretch) → (from < c.len → Fresh (valid c) from) → Found (valid c) c.len from s
      → count_from_by b c from ≡ (s.end - s.start) + count_from_by b c s.end
  next_by true k from s f h =
      let r = h.run in
      let less = r.some in
      let late = h.late in
      let a : s.start ≡ 0 = whole_start c true good k s.start s.end h.starts r in
      let e : s.end ≡ c.len = whole_end c true good k s.start s.end r in
      let z : from ≡ 0 = omega arith in
      let w : whole_count (c.entry 0) c.len ≡ c.len = all_count (c.entry 0) c.len (r.filled 0 (omega arith) (omega arith)) in
      ap (count_from_by true c) z ∙ (let p = past s.end (omega arith) in omega arith)
    where
      past : (i : ℕ) → 0 < i → count_from_by true c i ≡ 0
      past zero h = absurd (omega arith)
      past (suc i) h = refl
  next_by false k from s f h =
      let r = h.run in
      let less = r.some in
      let top = r.within in
      let late = h.late in
      let end = no_next (valid c) c.len s.start s.end r in
      let over = passed c.entry (s.start - from) from s.start (c.len - s.start) (c.len - from) (omega arith) (omega arith) (f (omega arith)) h.first in
      let one = run_first c.entry (s.end - s.start - 1) s.start s.end (c.len - s.end) (c.len - s.start) (omega arith) (omega arith) r.filled end in
      let run = run_from c.entry s.start (c.len - s.start) in
      let rest = stretches_from c.entry s.end (c.len - s.end) in
      let long : length run ≡ s.end - s.start = run_length c.entry (s.end - s.start) s.start s.end (c.len - s.end) (c.len - s.start) (omega arith) (omega arith) r.filled end in
      rw (flat_length c.entry from (c.len - from), over, one, length-append run (flat rest), long, ← flat_length c.entry s.end (c.len - s.end)) refl

  -- one stretch found and counted
  pub count_next : (from : ℕ) (s : Stretch) → (from < c.len → Fresh (valid c) from) → Found (valid c) c.len from s
      → count_from c from ≡ (s.end - s.start) + count_from c s.end
  count_next from s f h = next_by c.constant refl from s f h

  none_by : (b : Bool) (from : ℕ) → (from < c.len → Fresh (valid c) from) → NoneFrom (valid c) from c.len → count_from_by b c from ≡ 0
  none_by true zero f h = none_count (c.entry 0) c.len (λ low. first_null (valid c) 0 (f low) (h 0 (omega arith) low))
  none_by true (suc i) f h = refl
  none_by false from f h =
      flat_length c.entry from (c.len - from)
      ∙ ap (λ ss. length (flat ss))
      (⊎_elim (λ low. passed c.entry (c.len - from) from c.len 0 (c.len - from) (omega arith) (omega arith) (f low) h)
      (λ high. let z : c.len - from ≡ 0 = omega arith in ap (stretches_from c.entry from) z)
      (cases_lt from c.len))

  -- no stretch is left
  pub count_none : (from : ℕ) → (from < c.len → Fresh (valid c) from) → NoneFrom (valid c) from c.len → count_from c from ≡ 0
  count_none from f h = none_by c.constant from f h

-- from the first entry on it is the column's count
pub count_start : (c : Meaning) → count_from c 0 ≡ column_count c
count_start c = go c.constant
  where
    go : (b : Bool) → count_from_by b c 0 ≡ sum_by (λ (l : Lot). l.times) (lots_by b c)
    go true = refl
    go false =
        let z : c.len - 0 ≡ c.len = omega arith in
        ap (λ n. length (values_from c.entry 0 n)) z ∙ sym (single_length (values_from c.entry 0 c.len))
