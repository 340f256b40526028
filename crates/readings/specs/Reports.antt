-- The pair of a sum and a count. Assumes nothing.
use Rattle.dtype.specs.declared.scalar.Scalar.{Scalar}
use Rattle.aggregates.specs.declared.sum.Sum.{Sum}
use Rattle.aggregates.specs.declared.sum_partial.NumericalAggregateOpts.{NumericalAggregateOpts}
use Rattle.aggregates.specs.declared.sum_partial.SumPartial.{SumPartial}
use Rattle.aggregates.specs.declared.count.Count.{Count}
use Rattle.aggregates.specs.declared.count.CountPartial.{CountPartial}
use Rattle.aggregates.specs.Model.{Model}
use Rattle.aggregates.specs.CountModel.{count_model}
use Rattle.aggregates.specs.SumModel.{sum_model}
use Rattle.accumulators.specs.declared.accumulator.Accumulator.{Accumulator}
use Rattle.pairs.specs.declared.answers.SumIfCounted.{SumIfCounted}
use Rattle.pairs.specs.declared.combined.Combined.{Combined}
use Rattle.pairs.specs.declared.options.PairOptions.{PairOptions}
use Rattle.pairs.specs.Answers.{sum_if_counted}
use Rattle.pairs.specs.Pairs.{pair_model}

-- the type of the pair, its partials and its model
abbrev pub ReportedPair : Type 0
ReportedPair = Combined Sum Count SumIfCounted

abbrev pub ReportedPartial : Type 0
ReportedPartial = Accumulator Sum NumericalAggregateOpts SumPartial Scalar Scalar × Accumulator Count (Unit {0}) CountPartial Scalar Scalar

abbrev pub reported_model : Model (PairOptions NumericalAggregateOpts (Unit {0})) ReportedPartial (Scalar × Scalar) Scalar
reported_model = pair_model sum_model count_model sum_if_counted
