-- The values of a primitive column. Assumes nothing.
use Rattle.std.specs.Prelude.{List, map}
use Rattle.dtype.specs.declared.ptype.PType.{PType}
use Rattle.dtype.specs.declared.ptype.PType.TheVariants as p
use Rattle.dtype.specs.declared.value.Value.{Value}
use Rattle.dtype.specs.declared.value.Value.TheVariants as v
use Rattle.columns.specs.declared.values.Values.{Values}
use Rattle.columns.specs.declared.values.Values.TheVariants as w

abbrev pub values_kind : Values → PType
values_kind (w.U8 s) = p.U8
values_kind (w.U16 s) = p.U16
values_kind (w.U32 s) = p.U32
values_kind (w.U64 s) = p.U64
values_kind (w.I8 s) = p.I8
values_kind (w.I16 s) = p.I16
values_kind (w.I32 s) = p.I32
values_kind (w.I64 s) = p.I64
values_kind (w.F32 s) = p.F32
values_kind (w.F64 s) = p.F64

abbrev pub values_of : Values → List Value
values_of (w.U8 s) = map v.U8 s.now
values_of (w.U16 s) = map v.U16 s.now
values_of (w.U32 s) = map v.U32 s.now
values_of (w.U64 s) = map v.U64 s.now
values_of (w.I8 s) = map v.I8 s.now
values_of (w.I16 s) = map v.I16 s.now
values_of (w.I32 s) = map v.I32 s.now
values_of (w.I64 s) = map v.I64 s.now
values_of (w.F32 s) = map v.F32 s.now
values_of (w.F64 s) = map v.F64 s.now
