use Rattle.std.proofs.Common.{◌≡◌, ℕ, Bool, true, List, [], length, Option, Some, None, Bor, refl, ap, ◌∙◌, is_some, unwrap_or, sym, subst, arith}
use Rattle.std.proofs.lemmas.Grind.{common_steps}
use Rattle.std.specs.Option.{option_map}
use Rattle.columns.specs.declared.bitmap.Stretch.{Stretch}
use Rattle.columns.specs.declared.primitive.Primitive.{Primitive}
use Rattle.columns.specs.Columns.{valid}
use Rattle.columns.specs.Bitmaps.{bit_at, valid_by}
use Rattle.columns.specs.Primitives.{nullable_of, bits_of, primitive_meaning}
use Rattle.columns.specs.Stretches.{NextStretch}
use Rattle.columns.specs.Values.{values_of}
use Rattle.columns.proofs.Views.{next_there}
use Rattle.columns.proofs.primitive.PrimitiveColumn.next_stretch.Goals as goal

-- the next stretch by a bitmap, or by a flag that always holds, is the next of the column
by_flag : (x : Primitive) (v : Option (Bor (List ℕ))) (flag : ℕ → Bool) (from : ℕ) (r : Option Stretch) → x.validity ≡ v → ((i : ℕ) → flag i ≡ valid_by (is_some v) (unwrap_or (option_map (λ b. b.now) v) []) i)
    → NextStretch flag (length (values_of x.values)) from r → NextStretch (valid (primitive_meaning x)) (length (values_of x.values)) from r
by_flag x v flag from r e f h =
    let same : (i : ℕ) → flag i ≡ valid_by (nullable_of x) (bits_of x) i = λ i. f i ∙ ap (λ v. valid_by (is_some v) (unwrap_or (option_map (λ b. b.now) v) []) i) (sym e) in
    next_there (λ i. valid_by (nullable_of x) (bits_of x) i) (values_of x.values) from r (subst (λ w. NextStretch w (length (values_of x.values)) from r) (λ j i. same i j) h)

pub returns-in-Some : goal.returns-in-Some
returns-in-Some c =
    by_flag c.args.self.now (Some c.in-Some.bits) (bit_at c.in-Some.bits.now) c.args.from c.next_stretch.result c.in-Some.is (λ i. refl)
    (subst (λ n. NextStretch (bit_at c.in-Some.bits.now) n c.args.from c.next_stretch.result) c.len-len.ensures c.next_stretch.ensures)

pub returns-after-from-eq0 : goal.returns-after-from-eq0
returns-after-from-eq0 c = by_flag c.args.self.now None (λ i. true) c.args.from c.then_some.result c.in-None.is (λ i. refl) (grind (arith, common_steps))
