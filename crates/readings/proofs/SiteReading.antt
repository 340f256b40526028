-- A property of each answer that a site can read. Assumes nothing.
use Rattle.std.proofs.Common.{ℕ, Ok, Err, Result}
use Rattle.dtype.specs.declared.refusal.Refusal.{Refusal}
use Rattle.aggregates.specs.Sheets.{Sheet}
use Rattle.readings.specs.NewBoards.{SiteReads}

pub site_reads_more : {X S : Type 0} (F G : Sheet S → X → Type 0) (n i : ℕ) (s : Sheet S) (r : Result X Refusal) → ((x : X) → F s x → G s x) → SiteReads F n i s r → SiteReads G n i s r
site_reads_more F G n i s (Ok x) more h = (h.0, more x h.1)
site_reads_more F G n i s (Err e) more h = h
