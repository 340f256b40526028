-- A column's sum from a signed state against the exact total of its lots. Assumes nothing.
use Rattle.std.proofs.Common.{◌≡◌, ℕ, ◌+◌, Bool, true, false, cond, eqb, List, [], ◌∷◌, ℤ, pos, ◌+ℤ◌, ◌*ℤ◌, Some, None, Option, refl, ap, arith}
use Rattle.std.specs.Option.{option_map}
use Rattle.std.proofs.lemmas.List.Sums.{sum_by-append}
use Rattle.std.proofs.lemmas.Int.{ints}
use Rattle.std.proofs.lemmas.Bool.{cond_both}
use Rattle.dtype.specs.declared.ptype.Family.TheVariants as family
use Rattle.dtype.specs.declared.value.Value.{Value}
use Rattle.dtype.specs.Values.{int_of}
use Rattle.sums.specs.declared.state.SumState.{SumState}
use Rattle.sums.specs.declared.state.SumState.TheVariants.{Signed}
use Rattle.sums.specs.Sums.{signed64, step, exact_total, checked_sum, above, below}
use Rattle.sums.proofs.SignedTotals.{total-++, positives, negatives, above_hi, below_lo, total_hi, total_lo, Out, In, move_in, passed_more, far_passed, step_in, sum_in}
use Rattle.columns.specs.States.{add_stretches, onto, step_product, signed_span, signed_times}
use Rattle.columns.specs.Columns.{Meaning, whole_sum, stretches_from}
use Rattle.column_sums.specs.ColumnSums.{column_sum_by}
use Rattle.column_sums.specs.Lots.{Lot, int_worth, int_total, whole_lot, lots_by}
use Rattle.column_sums.proofs.Entries.{flat, stretches_sum, stretches_total}

-- a product that does not fit passed a limit by itself
product_in : (A B : ℕ) (z g a : ℤ) → In A B z (Some a) → In (A + above g) (B + below g) (z +ℤ g) (step_product signed64 a g)
product_in A B z g a h =
    let s = step_in A B (above g) (below g) z g (Some a) (above_hi g) (below_lo g) h in
    record {
      hi = s.hi;
      lo = s.lo;
      out = cond_both (signed64.fits g) (step signed64 (Some a) g) None (Out (A + above g) (B + below g) (z +ℤ g)) (λ e. s.out)
          (λ e. passed_more (above g) (A + above g) (below g) (B + below g) (omega arith) (omega arith) (far_passed g (above g) (below g) (above_hi g) (below_lo g) e));
    }

-- two sums added, none where either is none
abbrev pub both_added : Option ℤ → Option ℤ → Option ℤ
both_added o None = None
both_added o (Some b) = step signed64 o b

pub merge_in : (A B C D : ℕ) (z y : ℤ) (o q : Option ℤ) → In A B z o → In C D y q → In (A + C) (B + D) (z +ℤ y) (both_added o q)
merge_in A B C D z y o None h k =
    let s = step_in A B C D z y o k.hi k.lo h in
    record { hi = s.hi; lo = s.lo; out = passed_more C (A + C) D (B + D) (omega arith) (omega arith) k.out }
merge_in A B C D z y o (Some b) h k = rw k.out.0 (step_in A B C D z y o k.hi k.lo h)

-- ---- the same of a state
pub record Runs (A B : ℕ) (z : ℤ) (p : Option SumState) : Type 0 where
  pub now : Option ℤ
  pub is : p ≡ option_map Signed now
  pub inside : In A B z now

move_runs : (A A' B B' : ℕ) (z z' : ℤ) (p : Option SumState) → A ≡ A' → B ≡ B' → z ≡ z' → Runs A B z p → Runs A' B' z' p
move_runs A A' B B' z z' p a b e h = record { now = h.now; is = h.is; inside = move_in A A' B B' z z' h.now a b e h.inside }

same_runs : (A B : ℕ) (z a : ℤ) → In A B z (Some a) → Runs (A + 0) (B + 0) (z +ℤ pos 0) (Some (Signed a))
same_runs A B z a h = move_runs _ _ _ _ _ _ _ (omega arith) (omega arith) (omega (arith, ints)) (record { now = Some a; is = refl; inside = h })

span_runs : (small : Bool) (A B : ℕ) (z : ℤ) (o : Option ℤ) (xs : List Value) → In A B z o → Runs (A + positives int_of xs) (B + negatives int_of xs) (z +ℤ exact_total signed64 int_of xs) (onto (signed_span small xs) (option_map Signed o))
span_runs small A B z None xs h =
    record { now = None; is = refl; inside = step_in A B (positives int_of xs) (negatives int_of xs) z (exact_total signed64 int_of xs) None (total_hi int_of xs) (total_lo int_of xs) h }
span_runs small A B z (Some a) xs h = record { now = checked_sum signed64 small int_of a xs; is = refl; inside = sum_in small int_of A B z a xs h }

stretches_run : (small skip : Bool) (A B : ℕ) (z : ℤ) (p : Option SumState) (ss : List (List Value)) → Runs A B z p
    → Runs (A + positives int_of (flat ss)) (B + negatives int_of (flat ss)) (z +ℤ exact_total signed64 int_of (flat ss)) (add_stretches family.Signed small skip ss p)
stretches_run small skip A B z p [] h = move_runs _ _ _ _ _ _ p (omega arith) (omega arith) (omega (arith, ints)) h
stretches_run small skip A B z p (xs ∷ ss) h =
    let A' = A + positives int_of xs in
    let B' = B + negatives int_of xs in
    let z' = z +ℤ exact_total signed64 int_of xs in
    let one : Runs A' B' z' (onto (signed_span small xs) p) =
    rw h.is (span_runs small A B z h.now xs h.inside) in
    move_runs _ _ _ _ _ _ _
    (omega (arith, sum_by-append (λ x. above (int_of x)) xs (flat ss))) (omega (arith, sum_by-append (λ x. below (int_of x)) xs (flat ss))) (omega (arith, ints, total-++ int_of xs (flat ss)))
    (stretches_run small skip A' B' z' (onto (signed_span small xs) p) ss one)

abbrev LotsRun : List Lot → ℕ → ℕ → ℤ → Option SumState → Type 0
LotsRun ls A B z p = Runs (A + positives int_worth ls) (B + negatives int_worth ls) (z +ℤ int_total ls) p

whole_runs : (skip : Bool) (o : Option Value) (n A B : ℕ) (z a : ℤ) → In A B z (Some a) → LotsRun (whole_lot o n) A B z (whole_sum family.Signed skip o n (Signed a))
whole_runs skip None n A B z a h = same_runs A B z a h
whole_runs skip (Some x) n A B z a h = go (eqb n 0)
  where
    go : (b : Bool) → LotsRun (cond b [] (record { value = x; times = n } ∷ [])) A B z (cond b (Some (Signed a)) (signed_times (int_of x) n (Signed a)))
    go true = same_runs A B z a h
    go false =
        let g = int_of x *ℤ pos n in
        move_runs _ _ _ _ _ _ _ (omega arith) (omega arith) (omega (arith, ints)) (record { now = step_product signed64 a g; is = refl; inside = product_in A B z g a h })

times_one : (z : ℤ) → z *ℤ pos 1 ≡ z
times_one z = omega (arith, ints)

-- a column adds the exact total of its lots, or a limit was passed
pub column_adds_signed : (small b skip : Bool) (c : Meaning) (A B : ℕ) (z a : ℤ) → In A B z (Some a)
    → Runs (A + positives int_worth (lots_by b c)) (B + negatives int_worth (lots_by b c)) (z +ℤ int_total (lots_by b c)) (column_sum_by family.Signed small b c skip (Signed a))
column_adds_signed small true skip c A B z a h = whole_runs skip (c.entry 0) c.len A B z a h
column_adds_signed small false skip c A B z a h =
    move_runs _ _ _ _ _ _ _
    (ap (λ n. A + n) (stretches_sum (λ l. above (int_worth l)) (λ x. above (int_of x)) (λ x. ap above (times_one (int_of x))) c))
    (ap (λ n. B + n) (stretches_sum (λ l. below (int_worth l)) (λ x. below (int_of x)) (λ x. ap below (times_one (int_of x))) c))
    (ap (λ y. z +ℤ y) (stretches_total int_worth int_of (λ x. times_one (int_of x)) c))
    (stretches_run small skip A B z (Some (Signed a)) (stretches_from c.entry 0 c.len) (record { now = Some a; is = refl; inside = h }))
