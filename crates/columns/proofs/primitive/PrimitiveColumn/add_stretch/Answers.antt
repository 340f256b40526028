use Rattle.std.proofs.Common.{ap, ◌∙◌}
use Rattle.dtype.specs.Types.{family_of, narrow}
use Rattle.columns.specs.Bitmaps.{valid_by}
use Rattle.columns.specs.Columns.{stretch_sum}
use Rattle.columns.specs.Primitives.{nullable_of, bits_of, primitive_meaning}
use Rattle.columns.specs.Values.{values_kind, values_of}
use Rattle.columns.proofs.Views.{adds_found}
use Rattle.columns.proofs.primitive.PrimitiveColumn.add_stretch.Goals as goal

pub returns-in-Some : goal.returns-in-Some
returns-in-Some c =
    let x = c.args.self.now in
    let kind = values_kind x.values in
    c.add.ensures
    ∙ adds_found (valid_by (nullable_of x) (bits_of x)) (values_of x.values) (family_of kind) (narrow kind) c.args.skip_nans c.args.state c.args.at c.in-Some.stretch c.in-Some.ensures
    ∙ ap (λ a. stretch_sum (primitive_meaning x) c.args.skip_nans a c.args.state) c.if-stretch-at.true
