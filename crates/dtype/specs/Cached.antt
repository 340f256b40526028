-- A cached sum is never null. Assumes nothing.
use Rattle.std.specs.Prelude.{Bool, true, is_some}
use Rattle.dtype.specs.declared.scalar.Scalar.{Scalar}
use Rattle.dtype.specs.declared.precision.Precision.{Precision}
use Rattle.dtype.specs.declared.precision.Precision.TheVariants.{Exact, Inexact, Absent}

abbrev pub cached_ok : Precision Scalar → Bool
cached_ok (Exact x) = is_some x.value
cached_ok (Inexact x) = is_some x.value
cached_ok Absent = true
