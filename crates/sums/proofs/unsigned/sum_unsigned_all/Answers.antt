use Rattle.std.proofs.Common.{◌≡◌, ℕ, true, false, Some, None, ◌^◌, ◌≤◌, length, sym, ap, ◌∙◌, arith, rules}
use Rattle.std.specs.Slice.Iter.{chunks_rest}
use Rattle.std.proofs.lemmas.Iterator.{YieldsList-from_slice}
use Rattle.std.proofs.lemmas.Iterator.Adapters.{at_most_from_yields_List, fits_from_length}
use Rattle.dtype.specs.Types.{narrow}
use Rattle.dtype.specs.Values.{nat_of}
use Rattle.sums.specs.Sums.{unsigned64, step, checked_sum}
use Rattle.sums.proofs.Steps.{overflow_ends, all_added, chunk_added, chunk_overflow_ends, nothing_left}
use Rattle.sums.proofs.Runs.{total_of_mapped}
use Rattle.sums.proofs.UnsignedTotals.{unsigned_total_of}
use Rattle.sums.proofs.unsigned.sum_unsigned_all.Goals as goal

pub sum-chunk_sum-requires-clause-fits : goal.sum-chunk_sum-requires-clause-fits
sum-chunk_sum-requires-clause-fits g c =
    let n : narrow g.T.NativePType.PTYPE ≡ true = cc in
    let s = c.in-Some.ensures.steps in
    let i = c.loop-chunk.invariant in
    let few : length c.in-Some.chunk.now ≤ 65536 = omega (arith, s.1.1, i.size) in
    fits_from_length _ _ 65536 (2 ^ 64) (at_most_from_yields_List (YieldsList-from_slice c.in-Some.chunk.now (cc)) few) c.map.ensures.closure (omega arith) (λ x r q k. search rules)

pub loop-chunk-preserved : goal.loop-chunk-preserved
loop-chunk-preserved g c =
    let w : g.row.T.Denot → ℕ = λ x. nat_of (g.T.NativePType.held x) in
    let n : narrow g.T.NativePType.PTYPE ≡ true = cc in
    let s = c.in-Some.ensures.steps in
    let i = c.loop-chunk.invariant in
    record {
      can = omega (arith, s.0, i.size);
      finite = omega arith;
      size = omega (arith, s.0, i.size);
      whole =
          chunk_added unsigned64 w (narrow g.T.NativePType.PTYPE) n c.loop-chunk.total c.in-Some-checked_add_u64.t (chunks_rest c.loop-chunk.chunk-iterator) c.in-Some.chunk.now (chunks_rest c.next.new.self) s.1.2 s.1.0 (omega (arith, s.1.1, i.size))
          (ap (step unsigned64 (Some c.loop-chunk.total)) (sym (total_of_mapped unsigned64 w c.in-Some.chunk.now c.sum-chunk_sum.result _ (cc) c.map.ensures.closure (λ x r q k. search rules) c.sum-chunk_sum.ensures.ran)) ∙ sym c.in-Some-checked_add_u64.ensures)
          ∙ i.whole;
    }

pub returns-in_default : goal.returns-in_default
returns-in_default g c =
    let w : g.row.T.Denot → ℕ = λ x. nat_of (g.T.NativePType.held x) in
    let k = narrow g.T.NativePType.PTYPE in
    let n : k ≡ true = cc in
    let s = c.in-Some.ensures.steps in
    let i = c.loop-chunk.invariant in
    let e : None ≡ checked_sum unsigned64 k w c.args.acc c.args.slice.now =
    chunk_overflow_ends unsigned64 w k n c.loop-chunk.total (chunks_rest c.loop-chunk.chunk-iterator) c.in-Some.chunk.now (chunks_rest c.next.new.self) s.1.2 s.1.0 (omega (arith, s.1.1, i.size))
    (ap (step unsigned64 (Some c.loop-chunk.total)) (sym (total_of_mapped unsigned64 w c.in-Some.chunk.now c.sum-chunk_sum.result _ (cc) c.map.ensures.closure (λ x r q k. search rules) c.sum-chunk_sum.ensures.ran)) ∙ sym c.in_default.ensures)
    ∙ i.whole in
    record { steps = e; exact = unsigned_total_of k w c.args.acc c.args.slice.now None (omega arith) e }

pub returns-in_default-checked_add_u64 : goal.returns-in_default-checked_add_u64
returns-in_default-checked_add_u64 g c =
    let w : g.row.T.Denot → ℕ = λ x. nat_of (g.T.NativePType.held x) in
    let k = narrow g.T.NativePType.PTYPE in
    let n : k ≡ false = cc in
    let e : None ≡ checked_sum unsigned64 k w c.args.acc c.args.slice.now =
    overflow_ends unsigned64 w k n c.args.acc c.loop-v.total c.args.slice.now c.loop-v.v-index c.v-item.result c.loop-v-test.true c.v-item.is c.loop-v.invariant
    (ap (step unsigned64 (Some c.loop-v.total)) (sym c.widen.ensures.same) ∙ sym c.in_default-checked_add_u64.ensures) in
    record { steps = e; exact = unsigned_total_of k w c.args.acc c.args.slice.now None (omega arith) e }

pub returns-in-None : goal.returns-in-None
returns-in-None g c =
    let w : g.row.T.Denot → ℕ = λ x. nat_of (g.T.NativePType.held x) in
    let k = narrow g.T.NativePType.PTYPE in
    let e : Some c.loop-chunk.total ≡ checked_sum unsigned64 k w c.args.acc c.args.slice.now =
    nothing_left unsigned64 w k c.loop-chunk.total (chunks_rest c.loop-chunk.chunk-iterator) c.in-None.ensures.steps.1.0 ∙ c.loop-chunk.invariant.whole in
    record { steps = e; exact = unsigned_total_of k w c.args.acc c.args.slice.now (Some c.loop-chunk.total) (omega arith) e }

pub returns-after-loop-v : goal.returns-after-loop-v
returns-after-loop-v g c =
    let w : g.row.T.Denot → ℕ = λ x. nat_of (g.T.NativePType.held x) in
    let k = narrow g.T.NativePType.PTYPE in
    let n : k ≡ false = cc in
    let e : Some c.loop-v.total ≡ checked_sum unsigned64 k w c.args.acc c.args.slice.now =
    all_added unsigned64 w k n c.args.acc c.loop-v.total c.args.slice.now c.loop-v.v-index c.loop-v-test.false c.loop-v.invariant in
    record { steps = e; exact = unsigned_total_of k w c.args.acc c.args.slice.now (Some c.loop-v.total) (omega arith) e }
