-- A pair of aggregates: each half has an accumulator of its own. Assumes nothing.
use Rattle.std.specs.Prelude.{false, ◌&&◌, map, None, Ok, Err, Result}
use Rattle.dtype.specs.declared.refusal.Refusal.{Refusal}
use Rattle.dtype.specs.declared.statistics.Statistics.{Statistics}
use Rattle.columns.specs.Columns.{Meaning}
use Rattle.aggregates.specs.Model.{Model, Batch}
use Rattle.aggregates.specs.Sheets.{Item, lot, handed, Sheet}
use Rattle.accumulators.specs.declared.accumulator.Accumulator.{Accumulator}
use Rattle.accumulators.specs.Accumulators.{Ran, Fits, unused, folded, accumulated, merged_into, saturated_now, scalar_now, answer_now}
use Rattle.accumulators.specs.Belonging.{Belonging}
use Rattle.pairs.specs.declared.options.PairOptions.{PairOptions}

-- a half reads its own field of what is handed in
abbrev pub item_of : {S T : Type 0} → (S → T) → Item S → Item T
item_of f (lot l) = lot l
item_of f (handed x) = handed (f x)

abbrev pub sheet_of : {S T : Type 0} → (S → T) → Sheet S → Sheet T
sheet_of f s = map (item_of f) s

-- The right half takes the column unless the left one refused it, with the record as the left half left it.
abbrev pub right_batch : {X Y : Type 0} → (Statistics → Ran Y) → Ran X → Result (Unit {0}) Refusal → Y → Batch (X × Y)
right_batch next a (Ok u) r = record { answer = (next a.stats).answer; stats = (next a.stats).stats; partial = (a.after, (next a.stats).after) }
right_batch next a (Err e) r = record { answer = Err e; stats = a.stats; partial = (a.after, r) }

unfoldable pub pair_batch : {L LO LP LS LA R RO RP RS Ra : Type 0} → Model LO LP LS LA → Model RO RP RS Ra → Meaning → Statistics → Accumulator L LO LP LS LA → Accumulator R RO RP RS Ra → Batch (Accumulator L LO LP LS LA × Accumulator R RO RP RS Ra)
pair_batch l r c k a b = right_batch (λ k'. accumulated r c k' b) (accumulated l c k a) (accumulated l c k a).answer b

-- the pair, which makes its answer of those of its halves
abbrev pub pair_model : {L LO LP LS LA R RO RP RS Ra A : Type 0} → Model LO LP LS LA → Model RO RP RS Ra → (LA → Ra → A) → Model (PairOptions LO RO) (Accumulator L LO LP LS LA × Accumulator R RO RP RS Ra) (LS × RS) A
pair_model l r answers = record {
  Kind = l.Kind × r.Kind;
  kind_of = λ x. (l.kind_of x.0, r.kind_of x.1);
  partial_kind = λ o d. (l.partial_kind o.0 d, r.partial_kind o.1 d);
  empty = λ o d. (unused o.0 d, unused o.1 d);
  batch = λ o d c k p. pair_batch l r c k p.0 p.1;
  merged = λ o d p q. (merged_into l p.0 q.0.partial, merged_into r p.1 q.1.partial);
  takes = λ o d x. l.takes o.0 d x.0 && r.takes o.1 d x.1;
  taken = λ o d x. (folded l (l.taken o.0 d x.0) (unused o.0 d), folded r (r.taken o.1 d x.1) (unused o.1 d));
  reads = λ o d p. (scalar_now l p.0, scalar_now r p.1);
  final = λ o d p. answers (answer_now l p.0) (answer_now r p.1);
  saturated = λ o d p. saturated_now l p.0 && saturated_now r p.1;
  caches = λ o d. false;
  from_sum = λ o d x. None;
  wrote = λ o d p k. k;
  belongs = λ o d p. Belonging l o.0 d p.0 × Belonging r o.1 d p.1;
  allowed = λ o d s p. Fits l o.0 d (sheet_of (λ x. x.0) s) p.0 × Fits r o.1 d (sheet_of (λ x. x.1) s) p.1;
}
