-- How pairs make their answers. Assumes nothing.
use Rattle.std.specs.Prelude.{Bool, true, false, cond, Some, None, Option, ◌==◌, refl}
use Rattle.dtype.specs.declared.ptype.PType.{PType}
use Rattle.dtype.specs.declared.scalar.Scalar.{Scalar}
use Rattle.dtype.specs.declared.value.Value.{Value}
use Rattle.dtype.specs.declared.value.Value.TheVariants as v

abbrev pub null_of : PType → Scalar
null_of t = record { dtype = record { ptype = t; nullable = true }; value = None; ok = refl }

-- a count that reads 0
abbrev pub zero_value : Value → Bool
zero_value (v.U8 n) = false
zero_value (v.U16 n) = false
zero_value (v.U32 n) = false
zero_value (v.U64 n) = n == 0
zero_value (v.I8 z) = false
zero_value (v.I16 z) = false
zero_value (v.I32 z) = false
zero_value (v.I64 z) = false
zero_value (v.F32 x) = false
zero_value (v.F64 x) = false

abbrev pub counts_nothing : Option Value → Bool
counts_nothing None = false
counts_nothing (Some x) = zero_value x

-- the sum, and null where nothing was counted
abbrev pub sum_if_counted : Scalar → Scalar → Scalar
sum_if_counted sum count = cond (counts_nothing count.value) (null_of sum.dtype.ptype) sum
