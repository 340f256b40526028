use Rattle.std.proofs.Common.{◌≡◌, ◌≤◌, length, take, replicate}
use Rattle.accumulators.specs.Accumulators.{unused}
use Rattle.accumulators.proofs.sites.renew.Given as goal

abbrev pub invariant-loop-site : goal.invariant-loop-site
invariant-loop-site g l = (l.site-index ≤ length l.site-items) × (take l.site-index l.site-items ≡ replicate l.site-index (unused l.options l.dtype))
