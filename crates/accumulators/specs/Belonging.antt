-- Which accumulators can arise at given options and dtype. Assumes nothing.
use Rattle.std.specs.Prelude.{◌≡◌, Some, None, Option}
use Rattle.dtype.specs.declared.ptype.DType.{DType}
use Rattle.aggregates.specs.Model.{Model}
use Rattle.accumulators.specs.declared.accumulator.Accumulator.{Accumulator}

abbrev pub Belongs : {O P S A : Type 0} → Model O P S A → O → DType → Option P → Type 0
Belongs m o d None = Unit {0}
Belongs m o d (Some p) = m.belongs o d p

pub record Belonging {V O P S A : Type 0} (m : Model O P S A) (o : O) (d : DType) (a : Accumulator V O P S A) : Type 0 where
  pub options : a.options ≡ o
  pub dtype : a.dtype ≡ d
  pub partial : Belongs m o d a.partial
