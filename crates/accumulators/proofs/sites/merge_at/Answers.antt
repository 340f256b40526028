use Rattle.std.proofs.Common.{◌∙◌, ⊎_elim}
use Rattle.accumulators.proofs.Merging.{past_first, past_second, same_site, two_sites}
use Rattle.accumulators.proofs.sites.merge_at.Goals as goal

pub returns-then-into-sites : goal.returns-then-into-sites
returns-then-into-sites g c =
    ⊎_elim (past_first g.V.AggregateFn.model c.args.sites.now c.args.into c.args.from)
    (λ h. past_second g.V.AggregateFn.model _ _ _ h.1)
    c.then-into-sites.either

pub returns-then-into-from : goal.returns-then-into-from
returns-then-into-from g c = same_site g.V.AggregateFn.model _ _ _ c.if-into-sites.false c.if-from-sites.false c.if-into-from.true

pub returns : goal.returns
returns g c =
    two_sites g.V.AggregateFn.model c.args.sites.now c.args.into c.args.from c.index-sites-into.result c.index-sites-from.result c.if-into-sites.false c.if-from-sites.false c.if-into-from.false
    ∙ cc
