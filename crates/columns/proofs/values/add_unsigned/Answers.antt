use Rattle.std.proofs.Common.{◌≡◌, ◌∙◌, rules}
use Rattle.std.specs.Option.{option_map}
use Rattle.dtype.specs.Types.{narrow}
use Rattle.sums.specs.declared.state.SumState.TheVariants.{Unsigned}
use Rattle.columns.proofs.Parts.{unsigned_part}
use Rattle.columns.proofs.values.add_unsigned.Goals as goal

pub returns : goal.returns
returns g c =
    let mapped : c.map.result ≡ option_map Unsigned c.sum_unsigned_all.result = search rules in
    mapped ∙ unsigned_part g.T.NativePType.held c.args.part.now c.args.state (narrow g.T.NativePType.PTYPE) c.in-Unsigned.acc c.sum_unsigned_all.result c.in-Unsigned.is c.sum_unsigned_all.ensures.steps
