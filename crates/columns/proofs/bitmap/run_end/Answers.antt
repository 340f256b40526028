use Rattle.std.proofs.Common.{◌≡◌, true, false, subst, sym, rules}
use Rattle.std.proofs.lemmas.Iterator.{first_from_Range}
use Rattle.columns.specs.Bitmaps.{bit_at}
use Rattle.columns.specs.Stretches.{IsRun}
use Rattle.columns.proofs.Finds.{run_until}
use Rattle.columns.proofs.bitmap.run_end.Goals as goal

pub returns : goal.returns
returns c =
    let w = bit_at c.args.bits.now in
    let first = first_from_Range _ _ _ c.find.result (λ k. w k ≡ false) (λ k. w k ≡ true) c.find.ensures.ran (λ x q k. search rules) (λ x q k. search rules) in
    subst (IsRun w c.args.len c.args.start) (sym c.unwrap_or.ensures) (run_until w c.args.len c.args.start c.requires.0 c.requires.1 c.find.result first)
