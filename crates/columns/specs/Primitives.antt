-- What a primitive column means: values and a bitmap. Assumes nothing.
use Rattle.std.specs.Prelude.{◌≡◌, ℕ, zero, suc, ◌<◌, Bool, true, false, cond, List, [], ◌∷◌, map, length, is_some, Some, None, Option, ◌≢◌, unwrap_or, refl}
use Rattle.std.specs.List.{slice_get}
use Rattle.std.specs.Option.{option_map}
use Rattle.std.proofs.lemmas.Option.{slice_get-get_or}
use Rattle.dtype.specs.declared.ptype.PType.{PType}
use Rattle.dtype.specs.declared.ptype.DType.{DType}
use Rattle.dtype.specs.declared.value.Value.{Value}
use Rattle.dtype.specs.declared.value.Value.TheVariants as v
use Rattle.dtype.specs.Values.{kind_of, ValueOf}
use Rattle.columns.specs.declared.values.Values.{Values}
use Rattle.columns.specs.declared.values.Values.TheVariants as w
use Rattle.columns.specs.declared.primitive.Primitive.{Primitive}
use Rattle.columns.specs.Bitmaps.{valid_by}
use Rattle.columns.specs.Columns.{Meaning, Proper}
use Rattle.columns.specs.Values.{values_kind, values_of}

-- a column with a bitmap is nullable, and one without has no bits
abbrev pub nullable_of : Primitive → Bool
nullable_of c = is_some c.validity

abbrev pub bits_of : Primitive → List ℕ
bits_of c = unwrap_or (option_map (λ b. b.now) c.validity) []

abbrev pub primitive_meaning : Primitive → Meaning
primitive_meaning c = record {
  dtype = record { ptype = values_kind c.values; nullable = nullable_of c };
  len = length (values_of c.values);
  entry = λ i. cond (valid_by (nullable_of c) (bits_of c) i) (slice_get (values_of c.values) i) None;
  constant = false;
}

-- each value read is of the type
abbrev Typed : PType → Option Value → Type 0
Typed t None = Unit {0}
Typed t (Some x) = kind_of x ≡ t

nth_typed : {X : Type 0} (t : PType) (con : X → Value) → ((x : X) → kind_of (con x) ≡ t) → (xs : List X) (i : ℕ) → Typed t (slice_get (map con xs) i)
nth_typed t con h [] i = tt
nth_typed t con h (x ∷ xs) zero = h x
nth_typed t con h (x ∷ xs) (suc i) = nth_typed t con h xs i

values_typed : (w : Values) (i : ℕ) → Typed (values_kind w) (slice_get (values_of w) i)
values_typed (w.U8 s) i = nth_typed _ v.U8 (λ x. refl) s.now i
values_typed (w.U16 s) i = nth_typed _ v.U16 (λ x. refl) s.now i
values_typed (w.U32 s) i = nth_typed _ v.U32 (λ x. refl) s.now i
values_typed (w.U64 s) i = nth_typed _ v.U64 (λ x. refl) s.now i
values_typed (w.I8 s) i = nth_typed _ v.I8 (λ x. refl) s.now i
values_typed (w.I16 s) i = nth_typed _ v.I16 (λ x. refl) s.now i
values_typed (w.I32 s) i = nth_typed _ v.I32 (λ x. refl) s.now i
values_typed (w.I64 s) i = nth_typed _ v.I64 (λ x. refl) s.now i
values_typed (w.F32 s) i = nth_typed _ v.F32 (λ x. refl) s.now i
values_typed (w.F64 s) i = nth_typed _ v.F64 (λ x. refl) s.now i

-- an entry below the length is there
nth_there : (xs : List Value) (i : ℕ) → i < length xs → slice_get xs i ≢ None
nth_there xs i h e = let there = slice_get-get_or xs i (v.U8 0) h in cc

typed_entry : (d : DType) (o : Option Value) (flag : Bool) → Typed d.ptype o → (o ≢ None) → (d.nullable ≡ false → flag ≡ true) → ValueOf d (cond flag o None)
typed_entry d None true t there f = absurd (there refl)
typed_entry d (Some x) true t there f = t
typed_entry d o false t there f = nullable_or d.nullable refl
  where
    nullable_or : (b : Bool) → d.nullable ≡ b → d.nullable ≡ true
    nullable_or true e = e
    nullable_or false e = let g = f e in absurd cc

always_valid : (b : Bool) (bits : List ℕ) (i : ℕ) → b ≡ false → valid_by b bits i ≡ true
always_valid true bits i e = absurd cc
always_valid false bits i e = refl

pub primitive_proper : (c : Primitive) → Proper (primitive_meaning c)
primitive_proper c = record {
  typed = λ i low. typed_entry (primitive_meaning c).dtype (slice_get (values_of c.values) i) (valid_by (nullable_of c) (bits_of c) i) (values_typed c.values i) (nth_there (values_of c.values) i low) (always_valid (nullable_of c) (bits_of c) i);
  same = λ h i low. absurd cc;
}
