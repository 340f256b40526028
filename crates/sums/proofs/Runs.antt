-- Sums of what `map` makes of a slice: that of narrow signed numbers fits, and a sum is the exact total. Assumes nothing.
use Rattle.std.proofs.Common.{Iter, ◌≡◌, ℕ, ◌+◌, ◌*◌, ◌≤◌, List, [], ◌∷◌, map, length, ℤ, pos, ◌+ℤ◌, neg_ℤ, ◌≤ℤ◌, fold, Option, sym, ap, ◌∙◌, subst, arith, w32, w64, SFits}
use Rattle.std.specs.Prelude.{⊤}
use mathlib.Core.List.{map-id}
use Rattle.std.proofs.lemmas.List.{length-map}
use Rattle.std.proofs.lemmas.List.Folds.{fold-map}
use Rattle.std.proofs.iter.Yields.{fronts, gives_Drains}
use denote.Param.Members.{Mut}
use denote.Ref.{Bor}
use Rattle.std.specs.Fn.{Called}
use Rattle.std.specs.declared.iter.Map.{Map}
use Rattle.std.specs.Slice.Iter.{iter_rest}
use Rattle.std.specs.Iterator.{Yields, Drains}
use Rattle.std.specs.Iterator.Adapters.{map_steps, map_source, map_callee}
use Rattle.std.specs.Iterator.Runs.{EachRunFrom, YieldsRun}
use Rattle.std.proofs.lemmas.Int.{ints}
use Rattle.std.proofs.lemmas.Iterator.{YieldsList, YieldsList-from_map, YieldsList-from_slice}
use Rattle.std.proofs.lemmas.Iterator.Adapters.{at_most_from_yields_List}
use Rattle.sums.specs.Sums.{Adding, exact_total}

module _ {S A F : Type 0} (steps : S → Option A → S → Type 0) (g : Mut F (A × Unit {0}) ℤ) (f : F) (k : (x : A) (r : ℤ) (q : F) → Called g f (x, tt) r q → (q ≡ f) × SFits w32 r) where
  near : (xs : List ℤ) (a : ℤ) (m : ℕ) (s t : Map S F) → map_callee s ≡ f → Yields (map_steps steps g) s xs t
      → a ≤ℤ pos (2147483648 * m) → neg_ℤ (pos (2147483648 * m)) ≤ℤ a
      → (fold ◌+ℤ◌ a xs ≤ℤ pos (2147483648 * (m + length xs))) × (neg_ℤ (pos (2147483648 * (m + length xs))) ≤ℤ fold ◌+ℤ◌ a xs)
  near [] a m s t e y p q = (omega (arith, ints), omega (arith, ints))
  near (r ∷ xs) a m s t e y p q =
      let c = k y.1.0 r _ (subst (λ h. Called g h (y.1.0, tt) r (map_callee y.0)) e y.1.2) in
      let d = near xs (a +ℤ r) (m + 1) y.0 t c.0 y.2 (omega (arith, ints, c.1)) (omega (arith, ints, c.1)) in
      (omega (arith, ints, d.0), omega (arith, ints, d.1))

-- what `sum` requires after `map`, from the length of the list that is read
pub sum_of_narrow_fits : {S A B F : Type 0} {steps : S → Option A → S → Type 0} {v : A → B} {xs : List B} {s : Map S F} (g : Mut F (A × Unit {0}) ℤ) (h : B → ℤ) {f : F}
    → YieldsList steps v (map_source s) xs → map_callee s ≡ f → ((x : A) (r : ℤ) (q : F) → Called g f (x, tt) r q → (q ≡ f) × (r ≡ h (v x))) → ((x : A) (r : ℤ) (q : F) → Called g f (x, tt) r q → SFits w32 r) → length xs ≤ 65536
    → EachRunFrom (map_steps steps g) s (λ p. SFits w64 (fold ◌+ℤ◌ (pos 0) p.items))
unfolding YieldsRun
sum_of_narrow_fits {steps = steps} {xs} {s} g h {f} road e k low few = λ p _ at.
    let run = subst (λ u. Yields (map_steps steps g) u p.items p.gave.0.0) at p.gave.0.1 in
    let most : length (map h xs) ≤ 65536 = omega (arith, length-map xs h) in
    let long = (at_most_from_yields_List (YieldsList-from_map g h road e k) most).runs _ _ run in
    let d = near steps g f (λ x r q w. ((k x r q w).0, low x r q w)) p.items (pos 0) 0 s p.gave.0.0 e run (omega (arith, ints)) (omega (arith, ints)) in
    omega (arith, ints, d.0, d.1, long)

-- the sum of what `map` makes of a list is the list's exact total
total_of_run : {S N X : Type 0} (a : Adding N) (w : X → N) {steps : S → Option N → S → Type 0} {s : S} (xs : List X) (r : N) → ((ys : List N) × (⊤ → Drains steps s ys) × (r ≡ fold a.plus a.zero ys)) → YieldsList steps (λ n. n) s (map w xs) → r ≡ exact_total a w xs
total_of_run a w {steps} {s} xs r h road = h.2 ∙ ap (fold a.plus a.zero) (sym (map-id h.0) ∙ gives_Drains steps (λ n. n) h.0 (map w xs) s road.runs (h.1 tt)) ∙ fold-map a.plus w a.zero xs

-- the same, of a slice's elements
pub total_of_mapped : {N X F : Type 0} (a : Adding N) (w : X → N) (xs : List X) (r : N) {s : Map (Iter X) F} (g : Mut F (Bor X × Unit {0}) N) {f : F}
    → iter_rest (map_source s) ≡ xs → map_callee s ≡ f → ((x : Bor X) (n : N) (q : F) → Called g f (x, tt) n q → (q ≡ f) × (n ≡ w x.now))
    → ((ys : List N) × (⊤ → Drains (map_steps fronts g) s ys) × (r ≡ fold a.plus a.zero ys)) → r ≡ exact_total a w xs
total_of_mapped a w xs r g {f} e k c h = total_of_run a w xs r h (YieldsList-from_map g w (YieldsList-from_slice xs e) k c)
