-- The names of the number types and of dtypes in text. Assumes nothing.
use Rattle.std.specs.Prelude.{◌≡◌, ℕ, List, [], ◌++◌, codes, if◌then◌else◌, Result, MatchResult}
use Rattle.dtype.specs.declared.ptype.DType.{DType}
use Rattle.dtype.specs.declared.ptype.PType.{PType}
use Rattle.dtype.specs.declared.ptype.PType.TheVariants as p

abbrev pub name_of : PType → List ℕ
name_of p.U8 = codes "u8"
name_of p.U16 = codes "u16"
name_of p.U32 = codes "u32"
name_of p.U64 = codes "u64"
name_of p.I8 = codes "i8"
name_of p.I16 = codes "i16"
name_of p.I32 = codes "i32"
name_of p.I64 = codes "i64"
name_of p.F32 = codes "f32"
name_of p.F64 = codes "f64"

-- the type's name, directly followed by ? where it is nullable
abbrev pub dtype_name : DType → List ℕ
dtype_name d = name_of d.ptype ++ (if d.nullable then codes "?" else [])

-- r is what has the text for its name, and an error where nothing has
abbrev pub ReadsName : {X E : Type 0} → (X → List ℕ) → List ℕ → Result X E → Type 0
ReadsName {X} name text r = MatchResult r (λ x. text ≡ name x) (λ _. (x : X) → text ≡ name x → ⊥)
