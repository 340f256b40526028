use Rattle.std.proofs.Common.{refl}
use Rattle.std.proofs.lemmas.Option.{slice_get-get_or}
use Rattle.accumulators.proofs.sites.at_site.Goals as goal

pub returns : goal.returns
returns g c =
    rw (slice_get-get_or c.args.sites.now c.args.at c.index-sites-at.result c.if-at-sites.false)
    (c.call.result, c.call.new.arg2, record { shown = _; shows = refl; left = _; met = c.call.ensures; leaves = refl }, refl, refl)
