use Rattle.std.proofs.Common.{◌≡◌, true, false, Some, None, rules}
use Rattle.std.proofs.lemmas.Bool.{and_parts}
use Rattle.std.proofs.lemmas.Iterator.{first_from_Range}
use Rattle.columns.specs.Bitmaps.{bit_at}
use Rattle.columns.specs.Stretches.{begins}
use Rattle.columns.proofs.bitmap.next_stretch.Goals as goal

pub returns-in_default : goal.returns-in_default
returns-in_default c =
    let w = bit_at c.args.bits.now in
    first_from_Range _ _ _ None (λ k. begins w k ≡ true) (λ k. begins w k ≡ false) c.in_default.ensures.ran (λ x q k. search rules) (λ x q k. search rules)

pub run_end-end-requires : goal.run_end-end-requires
run_end-end-requires c =
    let w = bit_at c.args.bits.now in
    let s = first_from_Range _ _ _ (Some c.in-Some.start) (λ k. begins w k ≡ true) (λ k. begins w k ≡ false) c.in-Some.ensures.ran (λ x q k. search rules) (λ x q k. search rules) in
    (s.1, (and_parts _ _ s.2).0)

pub returns : goal.returns
returns c =
    let w = bit_at c.args.bits.now in
    let s = first_from_Range _ _ _ (Some c.in-Some.start) (λ k. begins w k ≡ true) (λ k. begins w k ≡ false) c.in-Some.ensures.ran (λ x q k. search rules) (λ x q k. search rules) in
    record { late = s.0; first = s.3; starts = s.2; run = c.run_end-end.ensures }
