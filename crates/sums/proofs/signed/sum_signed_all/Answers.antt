use Rattle.std.proofs.Common.{◌≡◌, ◌≤◌, length, true, false, ℤ, None, sym, ap, ◌∙◌, arith, w64, SFits, to_z, of_z, rules}
use Rattle.std.specs.Slice.Iter.{chunks_rest}
use Rattle.std.proofs.lemmas.Iterator.{YieldsList-from_slice}
use Rattle.std.proofs.lemmas.Int.{to_z-of_z}
use Rattle.dtype.specs.Types.{narrow}
use Rattle.dtype.specs.Values.{int_of}
use Rattle.sums.specs.Sums.{signed64, checked_sum}
use Rattle.sums.proofs.Steps.{step_next, overflow_ends, all_added, chunk_added, chunk_overflow_ends, nothing_left}
use Rattle.sums.proofs.Runs.{sum_of_narrow_fits, total_of_mapped}
use Rattle.sums.proofs.SignedTotals.{signed_total_of, step_answers, step_refuses}
use Rattle.sums.proofs.signed.sum_signed_all.Goals as goal

pub sum-chunk_sum-requires-clause-fits : goal.sum-chunk_sum-requires-clause-fits
sum-chunk_sum-requires-clause-fits g c =
    let w : g.row.T.Denot → ℤ = λ x. int_of (g.T.NativePType.held x) in
    let n : narrow g.T.NativePType.PTYPE ≡ true = cc in
    let s = c.in-Some.ensures.steps in
    let i = c.loop-chunk.invariant in
    let few : length c.in-Some.chunk.now ≤ 65536 = omega (arith, s.1.1, i.size) in
    sum_of_narrow_fits _ w (YieldsList-from_slice c.in-Some.chunk.now (cc)) c.map.ensures.closure (λ x r q k. search rules) (λ x r q k. search rules) few

pub loop-chunk-preserved : goal.loop-chunk-preserved
loop-chunk-preserved g c =
    let w : g.row.T.Denot → ℤ = λ x. int_of (g.T.NativePType.held x) in
    let k = narrow g.T.NativePType.PTYPE in
    let n : k ≡ true = cc in
    let s = c.in-Some.ensures.steps in
    let i = c.loop-chunk.invariant in
    let t = c.in-Some-checked_add_i64.t in
    let ft : SFits w64 t = search rules in
    let x = c.sum-chunk_sum.result in
    let fx : SFits w64 x = search rules in
    record {
      can = omega (arith, s.0, i.size);
      finite = omega arith;
      size = omega (arith, s.0, i.size);
      whole =
          chunk_added signed64 w k n _ (to_z w64 (of_z w64 t)) (chunks_rest c.loop-chunk.chunk-iterator) c.in-Some.chunk.now (chunks_rest c.next.new.self) s.1.2 s.1.0 (omega (arith, s.1.1, i.size))
          (step_answers _ (to_z w64 (of_z w64 x)) _ t (to_z w64 (of_z w64 t)) (to_z-of_z w64 x fx ∙ total_of_mapped signed64 w c.in-Some.chunk.now c.sum-chunk_sum.result _ (cc) c.map.ensures.closure (λ x r q k. search rules) c.sum-chunk_sum.ensures.ran) (to_z-of_z w64 t ft) c.in-Some-checked_add_i64.ensures)
          ∙ i.whole;
    }

pub loop-v-preserved : goal.loop-v-preserved
loop-v-preserved g c =
    let w : g.row.T.Denot → ℤ = λ x. int_of (g.T.NativePType.held x) in
    let t = c.in-Some-checked_add_i64-2.t in
    let ft : SFits w64 t = search rules in
    let x = c.widen.result in
    let fx : SFits w64 x = search rules in
    sym (step_answers _ (to_z w64 (of_z w64 x)) (w c.v-item.result) t (to_z w64 (of_z w64 t)) (to_z-of_z w64 x fx ∙ c.widen.ensures.same) (to_z-of_z w64 t ft) c.in-Some-checked_add_i64-2.ensures)
    ∙ step_next signed64 w _ _ c.args.slice.now c.loop-v.v-index c.v-item.result c.loop-v-test.true c.v-item.is c.loop-v.invariant

pub returns-in_default : goal.returns-in_default
returns-in_default g c =
    let w : g.row.T.Denot → ℤ = λ x. int_of (g.T.NativePType.held x) in
    let k = narrow g.T.NativePType.PTYPE in
    let n : k ≡ true = cc in
    let s = c.in-Some.ensures.steps in
    let i = c.loop-chunk.invariant in
    let x = c.sum-chunk_sum.result in
    let fx : SFits w64 x = search rules in
    let e : None ≡ checked_sum signed64 k w c.args.acc c.args.slice.now =
    chunk_overflow_ends signed64 w k n _ (chunks_rest c.loop-chunk.chunk-iterator) c.in-Some.chunk.now (chunks_rest c.next.new.self) s.1.2 s.1.0 (omega (arith, s.1.1, i.size))
    (step_refuses _ (to_z w64 (of_z w64 x)) _ (to_z-of_z w64 x fx ∙ total_of_mapped signed64 w c.in-Some.chunk.now c.sum-chunk_sum.result _ (cc) c.map.ensures.closure (λ x r q k. search rules) c.sum-chunk_sum.ensures.ran) c.in_default.ensures)
    ∙ i.whole
    ∙ ap (λ z. checked_sum signed64 k w z c.args.slice.now) (to_z-of_z w64 c.args.acc c.ranges.acc) in
    record { steps = e; exact = signed_total_of k w c.args.acc c.args.slice.now None (search rules) e }

pub returns-in_default-checked_add_i64 : goal.returns-in_default-checked_add_i64
returns-in_default-checked_add_i64 g c =
    let w : g.row.T.Denot → ℤ = λ x. int_of (g.T.NativePType.held x) in
    let k = narrow g.T.NativePType.PTYPE in
    let n : k ≡ false = cc in
    let x = c.widen.result in
    let fx : SFits w64 x = search rules in
    let e : None ≡ checked_sum signed64 k w c.args.acc c.args.slice.now =
    overflow_ends signed64 w k n _ _ c.args.slice.now c.loop-v.v-index c.v-item.result c.loop-v-test.true c.v-item.is c.loop-v.invariant
    (step_refuses _ (to_z w64 (of_z w64 x)) _ (to_z-of_z w64 x fx ∙ c.widen.ensures.same) c.in_default-checked_add_i64.ensures)
    ∙ ap (λ z. checked_sum signed64 k w z c.args.slice.now) (to_z-of_z w64 c.args.acc c.ranges.acc) in
    record { steps = e; exact = signed_total_of k w c.args.acc c.args.slice.now None (search rules) e }

pub returns-in-None : goal.returns-in-None
returns-in-None g c =
    let w : g.row.T.Denot → ℤ = λ x. int_of (g.T.NativePType.held x) in
    let k = narrow g.T.NativePType.PTYPE in
    let e =
    nothing_left signed64 w k _ (chunks_rest c.loop-chunk.chunk-iterator) c.in-None.ensures.steps.1.0
    ∙ c.loop-chunk.invariant.whole
    ∙ ap (λ z. checked_sum signed64 k w z c.args.slice.now) (to_z-of_z w64 c.args.acc c.ranges.acc) in
    record { steps = e; exact = signed_total_of k w c.args.acc c.args.slice.now _ (search rules) e }

pub returns-after-loop-v : goal.returns-after-loop-v
returns-after-loop-v g c =
    let w : g.row.T.Denot → ℤ = λ x. int_of (g.T.NativePType.held x) in
    let k = narrow g.T.NativePType.PTYPE in
    let n : k ≡ false = cc in
    let e =
    all_added signed64 w k n _ _ c.args.slice.now c.loop-v.v-index c.loop-v-test.false c.loop-v.invariant
    ∙ ap (λ z. checked_sum signed64 k w z c.args.slice.now) (to_z-of_z w64 c.args.acc c.ranges.acc) in
    record { steps = e; exact = signed_total_of k w c.args.acc c.args.slice.now _ (search rules) e }
