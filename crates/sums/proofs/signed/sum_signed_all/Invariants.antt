use Rattle.std.proofs.Common.{◌≡◌, take, Some, fold}
use Rattle.std.specs.Slice.Iter.{chunks_rest, chunks_size}
use Rattle.dtype.specs.Types.{narrow}
use Rattle.dtype.specs.Values.{int_of}
use Rattle.sums.specs.Sums.{signed64, step, checked_sum}
use Rattle.sums.proofs.signed.sum_signed_all.Given as goal

-- what is left gives what the whole gives
abbrev pub invariant-loop-chunk : goal.invariant-loop-chunk
invariant-loop-chunk g l =
    record {
      can : (goal.iterator-loop-chunk g).can_next l.chunk-iterator;
      finite : (goal.iterator-loop-chunk g).is_finite l.chunk-iterator;
      size : chunks_size l.chunk-iterator ≡ 65536;
      whole : checked_sum signed64 (narrow g.T.NativePType.PTYPE) (λ x. int_of (g.T.NativePType.held x)) l.total (chunks_rest l.chunk-iterator)
          ≡ checked_sum signed64 (narrow g.T.NativePType.PTYPE) (λ x. int_of (g.T.NativePType.held x)) l.acc l.slice;
    }

-- the values so far
abbrev pub invariant-loop-v : goal.invariant-loop-v
invariant-loop-v g l =
    Some l.total ≡ fold (λ s x. step signed64 s (int_of (g.T.NativePType.held x))) (Some l.acc) (take l.v-index l.slice)
