-- What the laws of an aggregate give of its accumulators. Assumes nothing.
use Rattle.std.proofs.Common.{◌≡◌, true, ◌⊎◌, List, [], ◌∷◌, ◌++◌, Some, None, Ok, Option, sym, refl, ◌∙◌, inl, inr, arith}
use Rattle.std.proofs.lemmas.List.{append-nil}
use Rattle.std.proofs.lemmas.Bool.{cond_both}
use Rattle.dtype.specs.declared.ptype.DType.{DType}
use Rattle.dtype.specs.declared.precision.Precision.TheVariants.{Exact}
use Rattle.dtype.specs.declared.scalar.Scalar.{Scalar}
use Rattle.dtype.specs.declared.statistics.Statistics.{Statistics}
use Rattle.dtype.specs.Same.{type_same}
use Rattle.columns.specs.Columns.{Meaning, Proper}
use Rattle.column_sums.specs.Lots.{Lot, column_lots}
use Rattle.column_sums.specs.Records.{RightSum, Truthful}
use Rattle.aggregates.specs.Sheets.{Sheet, handed, lots, Reordered, same, keep, swap, then}
use Rattle.aggregates.specs.Model.{Model, Lawful, Step, Holds, Gains, Accepted, started, gathered}
use Rattle.accumulators.specs.declared.accumulator.Accumulator.{Accumulator}
use Rattle.accumulators.specs.Accumulators.{Ran, Fits, unused, with_partial, saturated_by, saturated_now, scalar_now, answer_now, stepped, accumulated, folded, merged_into}
use Rattle.accumulators.specs.Belonging.{Belongs, Belonging}

-- a record that gained twice gained at most the column's sum
pub gains_twice : (c : Meaning) (k k' k'' : Statistics) → Gains c k k' → Gains c k' k'' → Gains c k k''
gains_twice c k k' k'' g h = record { nans = h.nans ∙ g.nans; sum = both h.sum g.sum }
  where
    both : (k''.sum ≡ k'.sum) ⊎ ((x : Scalar) × (k''.sum ≡ Exact x) × RightSum c x) → (k'.sum ≡ k.sum) ⊎ ((x : Scalar) × (k'.sum ≡ Exact x) × RightSum c x) → (k''.sum ≡ k.sum) ⊎ ((x : Scalar) × (k''.sum ≡ Exact x) × RightSum c x)
    both (inl a) (inl b) = inl (a ∙ b)
    both (inl a) (inr b) = inr (b.0, a ∙ b.1, b.2)
    both (inr a) b = inr a

-- a reordered empty sheet is empty
reordered_none : {X : Type 0} {s t : List X} → Reordered s t → s ≡ [] → t ≡ []
reordered_none same e = e
reordered_none (keep x r) e = absurd cc
reordered_none (swap x y) e = absurd cc
reordered_none (then r q) e = reordered_none q (reordered_none r e)

-- what another accumulator held, merged in
abbrev merging : {O P S A : Type 0} → Model O P S A → O → DType → Option P → Option P → Option P
merging m o d p None = p
merging m o d p (Some q) = Some (gathered m o d p q)

module _ {O P S A : Type 0} (m : Model O P S A) (laws : Lawful m) where
  holds_stays : (o : O) (d : DType) (s : Sheet S) (p : Option P) (ls : List Lot) → saturated_by m o d p ≡ true → Holds m o d s p → Holds m o d (s ++ lots ls) p
  holds_stays o d s None ls h a = cc
  holds_stays o d s (Some p) ls h a = laws.saturated_stays_allowed o d s p ls h a

  holds_joins : (o : O) (d : DType) (s t : Sheet S) (p q : Option P) → Holds m o d s p → Holds m o d t q → Holds m o d (s ++ t) (merging m o d p q)
  holds_joins o d s t p None a b = rw (b, append-nil s) a
  holds_joins o d s t None (Some q) a b = rw a b
  holds_joins o d s t (Some p) (Some q) a b = laws.merging_adds_sheets o d s t p q a b

  holds_reordered : (o : O) (d : DType) (s t : Sheet S) (p : Option P) → Reordered s t → Holds m o d s p → Holds m o d t p
  holds_reordered o d s t None r a = reordered_none r a
  holds_reordered o d s t (Some p) r a = laws.order_does_not_count o d s t p r a

  holds_belongs : (o : O) (d : DType) (s : Sheet S) (p : Option P) → Holds m o d s p → Belongs m o d p
  holds_belongs o d s None a = tt
  holds_belongs o d s (Some p) a = laws.allowed_belongs o d s p a

  started_belongs : (o : O) (d : DType) (p : Option P) → Belongs m o d p → m.belongs o d (started m o d p)
  started_belongs o d None b = laws.allowed_belongs o d [] (m.empty o d) (laws.empty_allowed o d)
  started_belongs o d (Some p) b = b

  -- what an accumulator reads as is allowed for its sheet
  pub allowed_started : (o : O) (d : DType) (s : Sheet S) (p : Option P) → Holds m o d s p → m.allowed o d s (started m o d p)
  allowed_started o d s None h = rw h (laws.empty_allowed o d)
  allowed_started o d s (Some p) h = h

  saturates_merging : (o : O) (d : DType) (p q : Option P) → Belongs m o d p → Belongs m o d q → (saturated_by m o d p ≡ true) ⊎ (saturated_by m o d q ≡ true) → saturated_by m o d (merging m o d p q) ≡ true
  saturates_merging o d p q a b h = grind (arith, laws.merging_saturates)

-- a fact at the options and the dtype, moved to those of an accumulator
pub moved : {O : Type 0} (F : O → DType → Type 0) (o o' : O) (d d' : DType) → o' ≡ o → d' ≡ d → F o d → F o' d'
moved F o o' d d' e f h = rw (e, f) h

-- An accepted column: the record stays truthful and gains at most the column's sum, and the column's lots are added.
pub record Added {V O P S A : Type 0} (m : Model O P S A) (o : O) (d : DType) (c : Meaning) (k : Statistics) (s : Sheet S) (r : Ran (Accumulator V O P S A)) : Type 0 where
  pub answered : r.answer ≡ Ok tt
  pub truthful : Truthful c r.stats
  pub gains : Gains c k r.stats
  pub fits : Fits m o d (s ++ lots (column_lots c)) r.after

module _ {V O P S A : Type 0} (m : Model O P S A) (laws : Lawful m) where
  merged_partial : (a : Accumulator V O P S A) (q : Option P) → merged_into m a q ≡ with_partial a (merging m a.options a.dtype a.partial q)
  merged_partial a None = refl
  merged_partial a (Some q) = refl

  pub fits_unused : (o : O) (d : DType) → Fits {V = V} m o d [] (unused o d)
  fits_unused o d = record { options = refl; dtype = refl; holds = refl }

  pub fits_taken : (o : O) (d : DType) (x : S) → m.takes o d x ≡ true → Fits {V = V} m o d (handed x ∷ []) (folded m (m.taken o d x) (unused o d))
  fits_taken o d x h = record { options = refl; dtype = refl; holds = laws.scalar_allowed o d x h }

  pub fits_stays : (o : O) (d : DType) (s : Sheet S) (a : Accumulator V O P S A) (ls : List Lot) → saturated_now m a ≡ true → Fits m o d s a → Fits m o d (s ++ lots ls) a
  fits_stays o d s a ls h f = record {
    options = f.options;
    dtype = f.dtype;
    holds = holds_stays m laws o d s a.partial ls (rw (f.options, f.dtype) at h) f.holds;
  }

  pub fits_joins : (o : O) (d : DType) (s t : Sheet S) (a b : Accumulator V O P S A) → Fits m o d s a → Fits m o d t b → Fits m o d (s ++ t) (merged_into m a b.partial)
  fits_joins o d s t a b f g =
      rw (merged_partial a b.partial)
      (record {
        options = f.options;
        dtype = f.dtype;
        holds = rw (f.options, f.dtype) (holds_joins m laws o d s t a.partial b.partial f.holds g.holds);
      })

  step_added : (o : O) (d : DType) (c : Meaning) (k : Statistics) (s : Sheet S) (a : Accumulator V O P S A) (r : Step P) → a.options ≡ o → a.dtype ≡ d → Accepted m o d c k s r → Added m o d c k s (stepped a r)
  step_added o d c k s a r e f h = record {
    answered = h.answered;
    truthful = h.truthful;
    gains = h.gains;
    fits = record { options = e; dtype = f; holds = rw h.holds h.allowed };
  }

  -- a column of the dtype with a truthful record is accepted, and its lots are added
  pub adds_column : (o : O) (d : DType) (c : Meaning) (k : Statistics) (s : Sheet S) (a : Accumulator V O P S A) → c.dtype ≡ d → Proper c → Truthful c k → Fits m o d s a → Added m o d c k s (accumulated m c k a)
  adds_column o d c k s a e good h f =
      cond_both (saturated_now m a) _ _ (Added m o d c k s)
      (λ y. record { answered = refl; truthful = h; gains = record { nans = refl; sum = inl refl }; fits = fits_stays o d s a (column_lots c) y f })
      (λ n. rw (type_same c.dtype a.dtype (e ∙ sym f.dtype)) (step_added o d c k s a _ f.options f.dtype (rw (f.options, f.dtype) (laws.accumulating_adds_lots o d c k s a.partial e good h f.holds))))

  pub fits_reordered : (o : O) (d : DType) (s t : Sheet S) (a : Accumulator V O P S A) → Reordered s t → Fits m o d s a → Fits m o d t a
  fits_reordered o d s t a r f = record { options = f.options; dtype = f.dtype; holds = holds_reordered m laws o d s t a.partial r f.holds }

  pub fits_belongs : (o : O) (d : DType) (s : Sheet S) (a : Accumulator V O P S A) → Fits m o d s a → Belonging m o d a
  fits_belongs o d s a f = record { options = f.options; dtype = f.dtype; partial = holds_belongs m laws o d s a.partial f.holds }

  pub accumulators_saturate : (o : O) (d : DType) (a b : Accumulator V O P S A) → Belonging m o d a → Belonging m o d b → (saturated_now m a ≡ true) ⊎ (saturated_now m b ≡ true) → saturated_now m (merged_into m a b.partial) ≡ true
  accumulators_saturate o d a b f g h =
      rw (merged_partial a b.partial, f.options, f.dtype)
      (saturates_merging m laws o d a.partial b.partial f.partial g.partial (rw (f.options, f.dtype, g.options, g.dtype) at h))

  -- what is read, taken in and read again
  pub record ReadAgain (o : O) (d : DType) (a : Accumulator V O P S A) : Type 0 where
    pub taken : m.takes o d (scalar_now m a) ≡ true
    pub scalar : m.reads o d (m.taken o d (scalar_now m a)) ≡ scalar_now m a
    pub answer : m.final o d (m.taken o d (scalar_now m a)) ≡ answer_now m a

  pub read_again : (o : O) (d : DType) (a : Accumulator V O P S A) → Belonging m o d a → ReadAgain o d a
  read_again o d a f =
      let l = laws.reads_again o d (started m o d a.partial) (started_belongs m laws o d a.partial f.partial) in
      record {
        taken = rw (f.options, f.dtype) l.taken;
        scalar = rw (f.options, f.dtype) l.scalar;
        answer = rw (f.options, f.dtype) l.answer;
      }

  -- the final answer is that of a partial allowed for the sheet
  pub fits_answer : (o : O) (d : DType) (s : Sheet S) (a : Accumulator V O P S A) → Fits m o d s a → (p : P) × m.allowed o d s p × (answer_now m a ≡ m.final o d p)
  fits_answer o d s a f = (
    started m o d a.partial,
    allowed_started m laws o d s a.partial f.holds,
    rw (f.options, f.dtype),
  )
