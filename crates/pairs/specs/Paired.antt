-- A pair keeps every law of an aggregate, since its halves do. Assumes nothing.
use Rattle.std.specs.Prelude.{◌≡◌, Bool, true, ◌&&◌, ◌⊎◌, List, [], ◌∷◌, ◌++◌, Some, None, Option, refl, IsTrue, ◌↔◌}
use Rattle.std.proofs.Common.{inl, inr, ⊎_elim}
use Rattle.std.proofs.lemmas.List.{map-append}
use Rattle.std.proofs.lemmas.Bool.{and_parts, and_from}
use Rattle.std.proofs.lemmas.Bool.Decides.{Decides-like, Decides-and}
use Rattle.dtype.specs.declared.ptype.DType.{DType}
use Rattle.dtype.specs.declared.statistics.Statistics.{Statistics}
use Rattle.columns.specs.Columns.{Meaning, Proper}
use Rattle.column_sums.specs.Lots.{Lot, column_lots}
use Rattle.column_sums.specs.Records.{Truthful}
use Rattle.aggregates.specs.Sheets.{Sheet, lots, Reordered, same, keep, swap, then}
use Rattle.aggregates.specs.Model.{Model, Lawful, Holds, Accepted, ReadsAgain, column_step, straight}
use Rattle.accumulators.specs.declared.accumulator.Accumulator.{Accumulator}
use Rattle.accumulators.specs.Accumulators.{Ran, Fits, unused, accumulated, merged_into, saturated_now}
use Rattle.accumulators.proofs.Accumulating.{Added, gains_twice, fits_unused, fits_taken, fits_stays, fits_joins, adds_column, fits_reordered, fits_belongs, accumulators_saturate, read_again}
use Rattle.pairs.specs.declared.options.PairOptions.{PairOptions}
use Rattle.pairs.specs.Pairs.{item_of, sheet_of, pair_batch, pair_model}

-- `==` of the options says whether they are equal, since that of each half's does
pub pair_told_apart : {L R : Type 0} (l : L → L → Bool) (r : R → R → Bool) → ((a b : L) → IsTrue (l a b) ↔ (a ≡ b)) → ((a b : R) → IsTrue (r a b) ↔ (a ≡ b)) → (a b : PairOptions L R) → IsTrue (l a.0 b.0 && r a.1 b.1) ↔ (a ≡ b)
pair_told_apart l r f g a b = Decides-like _ (λ h i. (h.0 i, h.1 i)) (λ e. (λ i. (e i).0, λ i. (e i).1)) (Decides-and _ _ (f a.0 b.0) (g a.1 b.1))

sheet_lots : {S T : Type 0} (f : S → T) (ls : List Lot) → sheet_of f (lots ls) ≡ lots ls
sheet_lots f [] = refl
sheet_lots f (l ∷ ls) = rw (sheet_lots f ls)

sheet_reordered : {S T : Type 0} (f : S → T) {s t : Sheet S} → Reordered s t → Reordered (sheet_of f s) (sheet_of f t)
sheet_reordered f same = same
sheet_reordered f (keep x r) = keep (item_of f x) (sheet_reordered f r)
sheet_reordered f (swap x y) = swap (item_of f x) (item_of f y)
sheet_reordered f (then r q) = then (sheet_reordered f r) (sheet_reordered f q)

sheet_more : {S T : Type 0} (f : S → T) (s : Sheet S) (ls : List Lot) → sheet_of f (s ++ lots ls) ≡ sheet_of f s ++ lots ls
sheet_more f s ls = rw (map-append (item_of f) s (lots ls), sheet_lots f ls)

-- one half, over its own sheet
module _ {V O P S A T : Type 0} (m : Model O P S A) (laws : Lawful m) (f : T → S) where
  half_stays : (o : O) (d : DType) (s : Sheet T) (a : Accumulator V O P S A) (ls : List Lot) → saturated_now m a ≡ true → Fits m o d (sheet_of f s) a → Fits m o d (sheet_of f (s ++ lots ls)) a
  half_stays o d s a ls h x = rw (sheet_more f s ls) (fits_stays m laws o d (sheet_of f s) a ls h x)

  half_joins : (o : O) (d : DType) (s t : Sheet T) (a b : Accumulator V O P S A) → Fits m o d (sheet_of f s) a → Fits m o d (sheet_of f t) b → Fits m o d (sheet_of f (s ++ t)) (merged_into m a b.partial)
  half_joins o d s t a b x y = rw (map-append (item_of f) s t) (fits_joins m laws o d (sheet_of f s) (sheet_of f t) a b x y)

  half_adds : (o : O) (d : DType) (c : Meaning) (k : Statistics) (s : Sheet T) (r : Ran (Accumulator V O P S A)) → Added m o d c k (sheet_of f s) r → Fits m o d (sheet_of f (s ++ lots (column_lots c))) r.after
  half_adds o d c k s r h = rw (sheet_more f s (column_lots c)) h.fits

module _ {L LO LP LS LA R RO RP RS Ra A : Type 0} (l : Model LO LP LS LA) (r : Model RO RP RS Ra) (answers : LA → Ra → A) (ll : Lawful l) (rl : Lawful r) where
  abbrev pair_of_halves : Model (PairOptions LO RO) (Accumulator L LO LP LS LA × Accumulator R RO RP RS Ra) (LS × RS) A
  pair_of_halves = pair_model l r answers

  -- the column goes through both halves
  both_add : (o : PairOptions LO RO) (d : DType) (c : Meaning) (k : Statistics) (s : Sheet (LS × RS)) (a : Accumulator L LO LP LS LA) (b : Accumulator R RO RP RS Ra) → c.dtype ≡ d → Proper c → Truthful c k
      → Fits l o.0 d (sheet_of (λ x. x.0) s) a → Fits r o.1 d (sheet_of (λ x. x.1) s) b → Accepted pair_of_halves o d c k s (straight pair_of_halves o d (pair_batch l r c k a b))
  unfolding pair_batch
  both_add o d c k s a b e good h f g =
      let x = adds_column l ll o.0 d c k (sheet_of (λ x. x.0) s) a e good h f in
      let y = adds_column r rl o.1 d c (accumulated l c k a).stats (sheet_of (λ x. x.1) s) b e good x.truthful g in
      rw x.answered
      (record {
        answered = y.answered;
        truthful = y.truthful;
        gains = gains_twice c k (accumulated l c k a).stats (accumulated r c (accumulated l c k a).stats b).stats x.gains y.gains;
        after = ((accumulated l c k a).after, (accumulated r c (accumulated l c k a).stats b).after);
        holds = refl;
        allowed = (half_adds l ll (λ x. x.0) o.0 d c k s _ x, half_adds r rl (λ x. x.1) o.1 d c (accumulated l c k a).stats s _ y);
      })

  adds : (o : PairOptions LO RO) (d : DType) (c : Meaning) (k : Statistics) (s : Sheet (LS × RS)) (p : Option (Accumulator L LO LP LS LA × Accumulator R RO RP RS Ra)) → c.dtype ≡ d → Proper c → Truthful c k → Holds pair_of_halves o d s p → Accepted pair_of_halves o d c k s (column_step pair_of_halves o d c k p)
  adds o d c k s None e good h a =
      rw a
      (both_add o d c k [] (unused o.0 d) (unused o.1 d) e good h (fits_unused l ll o.0 d) (fits_unused r rl o.1 d))
  adds o d c k s (Some p) e good h a = both_add o d c k s p.0 p.1 e good h a.0 a.1

  saturates : (o : PairOptions LO RO) (d : DType) (p q : Accumulator L LO LP LS LA × Accumulator R RO RP RS Ra) → pair_of_halves.belongs o d p → pair_of_halves.belongs o d q → (pair_of_halves.saturated o d p ≡ true) ⊎ (pair_of_halves.saturated o d q ≡ true) → pair_of_halves.saturated o d (pair_of_halves.merged o d p q) ≡ true
  saturates o d p q x y h =
      and_from _ _
      (accumulators_saturate l ll o.0 d p.0 q.0 x.0 y.0 (⊎_elim (λ z. inl (and_parts _ _ z).0) (λ z. inr (and_parts _ _ z).0) h))
      (accumulators_saturate r rl o.1 d p.1 q.1 x.1 y.1 (⊎_elim (λ z. inl (and_parts _ _ z).1) (λ z. inr (and_parts _ _ z).1) h))

  pair_reads_again : (o : PairOptions LO RO) (d : DType) (p : Accumulator L LO LP LS LA × Accumulator R RO RP RS Ra) → pair_of_halves.belongs o d p → ReadsAgain pair_of_halves o d p
  pair_reads_again o d p b =
      let x = read_again l ll o.0 d p.0 b.0 in
      let y = read_again r rl o.1 d p.1 b.1 in
      record {
        taken = and_from _ _ x.taken y.taken;
        scalar = λ i. (x.scalar i, y.scalar i);
        answer = λ i. answers (x.answer i) (y.answer i);
      }

  pub pair_lawful : Lawful pair_of_halves
  pair_lawful = record {
    takes_its_dtype = λ o d x e. and_from _ _ (ll.takes_its_dtype o.0 d x.0 (λ i. (e i).0)) (rl.takes_its_dtype o.1 d x.1 (λ i. (e i).1));
    takes_no_other = λ o d x h.
        let t = and_parts _ _ h in
        let a = ll.takes_no_other o.0 d x.0 t.0 in
        let b = rl.takes_no_other o.1 d x.1 t.1 in
        λ i. (a i, b i);
    allowed_belongs = λ o d s p a. (fits_belongs l ll o.0 d _ p.0 a.0, fits_belongs r rl o.1 d _ p.1 a.1);
    empty_allowed = λ o d. (fits_unused l ll o.0 d, fits_unused r rl o.1 d);
    empty_not_saturated = λ o d. refl;
    merging_adds_sheets = λ o d s t p q a b. (half_joins l ll (λ x. x.0) o.0 d s t p.0 q.0 a.0 b.0, half_joins r rl (λ x. x.1) o.1 d s t p.1 q.1 a.1 b.1);
    accumulating_adds_lots = adds;
    scalar_allowed = λ o d x h.
        let t = and_parts _ _ h in
        (fits_taken l ll o.0 d x.0 t.0, fits_taken r rl o.1 d x.1 t.1);
    saturated_stays_allowed = λ o d s p ls h a.
        let t = and_parts _ _ h in
        (half_stays l ll (λ x. x.0) o.0 d s p.0 ls t.0 a.0, half_stays r rl (λ x. x.1) o.1 d s p.1 ls t.1 a.1);
    merging_saturates = saturates;
    reads_again = pair_reads_again;
    order_does_not_count = λ o d s t p q a. (fits_reordered l ll o.0 d (sheet_of (λ x. x.0) s) (sheet_of (λ x. x.0) t) p.0 (sheet_reordered (λ x. x.0) q) a.0, fits_reordered r rl o.1 d (sheet_of (λ x. x.1) s) (sheet_of (λ x. x.1) t) p.1 (sheet_reordered (λ x. x.1) q) a.1);
  }
