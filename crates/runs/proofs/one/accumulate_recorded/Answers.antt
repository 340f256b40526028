use Rattle.std.proofs.Common.{refl}
use Rattle.std.proofs.lemmas.List.{set_past, get_or_past}
use Rattle.dtype.specs.Same.{statistics_same}
use Rattle.runs.specs.Calls.{blank_statistics}
use Rattle.runs.proofs.one.accumulate_recorded.Goals as goal

pub returns-else-at-records : goal.returns-else-at-records
returns-else-at-records g c =
    let recs = c.args.records.now in
    let past = c.if-at-records.false in
    let blank = statistics_same c.default.result blank_statistics c.default.ensures.0 c.default.ensures.1 in
    rw (get_or_past recs c.args.at blank_statistics past, ← blank, c.accumulate-else-at-records.ensures.exact, set_past recs c.args.at _ past) (refl, refl, refl)
