use Rattle.std.proofs.Common.{◌≡◌, ◌∙◌, ap, w64, SFits, rules}
use Rattle.std.specs.Option.{option_map}
use Rattle.std.proofs.lemmas.Int.{to_z-of_z}
use Rattle.dtype.specs.Types.{narrow}
use Rattle.dtype.specs.Values.{int_of}
use Rattle.sums.specs.declared.state.SumState.TheVariants.{Signed}
use Rattle.sums.specs.Sums.{signed64, checked_sum}
use Rattle.columns.proofs.Parts.{signed_part}
use Rattle.columns.proofs.values.add_signed.Goals as goal

pub returns : goal.returns
returns g c =
    let h = g.T.NativePType.held in
    let n = narrow g.T.NativePType.PTYPE in
    let acc = c.in-Signed.acc in
    let fits : SFits w64 acc = search rules in
    let mapped : c.map.result ≡ option_map Signed c.sum_signed_all.result = search rules in
    mapped ∙ signed_part h c.args.part.now c.args.state n acc c.sum_signed_all.result c.in-Signed.is (c.sum_signed_all.ensures.steps ∙ ap (λ z. checked_sum signed64 n (λ x. int_of (h x)) z c.args.part.now) (to_z-of_z w64 acc fits))
