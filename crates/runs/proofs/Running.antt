-- Every call of a list keeps the law, since each call of a board does. Assumes nothing.
use Rattle.std.proofs.Common.{◌≡◌, ℕ, List, [], ◌∷◌, length, set, IfOk, Ok, Err, Result, refl, ap, inl, ⊎_elim}
use Rattle.std.specs.List.{slice_get}
use Rattle.std.proofs.lemmas.List.{get_or-set_same, set_past}
use Rattle.std.proofs.lemmas.Bool.{cases_lt}
use Rattle.dtype.specs.declared.ptype.DType.{DType}
use Rattle.dtype.specs.declared.refusal.Refusal.{Refusal}
use Rattle.dtype.specs.declared.statistics.Statistics.{Statistics}
use Rattle.columns.specs.Columns.{Meaning, Proper}
use Rattle.column_sums.specs.Records.{Truthful}
use Rattle.aggregates.specs.Model.{Model, Lawful}
use Rattle.aggregates.specs.Sheets.{Sheet}
use Rattle.accumulators.specs.declared.accumulator.Accumulator.{Accumulator}
use Rattle.accumulators.specs.Accumulators.{scalar_now, answer_now}
use Rattle.accumulators.specs.Boards.{board_accumulated, board_combined, board_merged, site_scalar, site_answer, site_reset}
use Rattle.accumulators.specs.BoardSheets.{Rows, sheet_at, Kept, RecordKept, ReadFrom}
use Rattle.accumulators.proofs.Boarding.{accumulate_keeps, combine_keeps, merge_keeps, clear_keeps, scalar_read, answer_read}
use Rattle.accumulators.proofs.Lookups.{nth_set_other}
use Rattle.runs.specs.declared.call.Call.{Call}
use Rattle.runs.specs.declared.call.Call.TheVariants.{Accumulate, Combine, Merge, Flush, Finish, Reset}
use Rattle.runs.specs.declared.call.Line.{Line}
use Rattle.runs.specs.declared.call.Outcome.{Outcome}
use Rattle.runs.specs.declared.call.Outcome.TheVariants.{Done, Flushed, Finished}
use Rattle.runs.specs.Calls.{blank_statistics, statistics_at, Performed, answered_by, performed, RanPage, ran}
use Rattle.runs.specs.Laws.{HandedTruthful, sheets_after, CallKept, PageTruthful, sheets_page, CallKeeps, EveryCallKeeps, SitesKeep}

-- ---- an accepted answer in other words keeps the same

kept_answered : {V O P S A X Y : Type 0} {m : Model O P S A} {o : O} {d : DType} {row : List (Accumulator V O P S A)} {N : ℕ → Type 0} {T : Type 0} {R : Refusal → Type 0} {after : Result X Refusal → List (Sheet S)} {after' : Result Y Refusal → List (Sheet S)} {row' : List (Accumulator V O P S A)} (f : X → Y) (r : Result X Refusal)
    → ((z : Result X Refusal) → after' (answered_by f z) ≡ after z) → Kept m o d row N T R after r row' → Kept m o d row N T R after' (answered_by f r) row'
kept_answered f (Ok x) h k = record { refusals = k.refusals; sheets = rw (h (Ok x)) k.sheets; elsewhere = k.elsewhere; refused_leaves = λ e q. absurd cc }
kept_answered f (Err e) h k = record { refusals = k.refusals; sheets = rw (h (Err e)) k.sheets; elsewhere = k.elsewhere; refused_leaves = λ g q. k.refused_leaves e refl }

record_answered : {X Y : Type 0} (f : X → Y) (c : Meaning) (k : Statistics) (r : Result X Refusal) (k' : Statistics) → RecordKept c k r k' → RecordKept c k (answered_by f r) k'
record_answered f c k (Ok x) k' h = record { truthful = h.truthful; gains = h.gains; refused_leaves = λ e q. absurd cc }
record_answered f c k (Err e) k' h = record { truthful = h.truthful; gains = h.gains; refused_leaves = λ g q. h.refused_leaves e refl }

done : (S A : Type 0) {X : Type 0} (r : Result X Refusal) → IfOk (answered_by {Y = Outcome S A} (λ u. Done) r) (λ x. x ≡ Done)
done S A (Ok x) = refl
done S A (Err e) = tt

read_answered : {O P S A X Y : Type 0} (f : X → Y) (m : Model O P S A) (o : O) (d : DType) (s : Sheet S) (g : P → X) (r : Result X Refusal) → ReadFrom m o d s g r → IfOk (answered_by f r) (λ x. (p : P) × m.allowed o d s p × (x ≡ f (g p)))
read_answered f m o d s g (Ok x) h = (h.0, h.1, ap f h.2)
read_answered f m o d s g (Err e) h = tt

-- ---- the table of records

-- what is written back stands there, and past the table's end nothing changes
record_written : {X : Type 0} (c : Meaning) (recs : List Statistics) (k : ℕ) (r : Result X Refusal) (st : Statistics) → Truthful c (statistics_at recs k) → RecordKept c (statistics_at recs k) r st → RecordKept c (statistics_at recs k) r (statistics_at (set recs k st) k)
record_written c recs k r st t h =
    ⊎_elim
    (λ y. rw (get_or-set_same recs k st blank_statistics y) h)
    (λ n. rw (set_past recs k st n) (record { truthful = t; gains = record { nans = refl; sum = inl refl }; refused_leaves = λ e q. refl }))
    (cases_lt k (length recs))

-- ---- one call

module _ {C V O P S A : Type 0} (m : Model O P S A) (laws : Lawful m) (mean : C → Meaning) (proper : (c : C) → Proper (mean c)) where
  call_kept : (o : O) (d : DType) (x : Call C S) (recs : List Statistics) (row : List (Accumulator V O P S A)) (ss : List (Sheet S)) → Rows m o d ss row → HandedTruthful mean x recs → CallKept m mean o d x recs row ss (performed m mean x recs row)
  call_kept o d (Accumulate i c k) recs row ss rows h =
      let z = board_accumulated m (mean c) (statistics_at recs k) row i (slice_get row i) in
      let law = accumulate_keeps m laws row (mean c) (statistics_at recs k) i z.answer z.stats z.after (proper c) refl o d ss rows h in
      record {
        board = kept_answered (λ u. Done) z.answer (elim [ Ok x ↦ refl | Err e ↦ refl ]) law.0;
        records = (record_answered (λ u. Done) (mean c) (statistics_at recs k) z.answer _ (record_written (mean c) recs k z.answer z.stats h law.1), λ n ne. nth_set_other recs k n z.stats ne);
        answers = done S A z.answer;
      }
  call_kept o d (Combine i x) recs row ss rows h =
      let z = board_combined m x row i (slice_get row i) in
      record {
        board = kept_answered (λ u. Done) z.answer (elim [ Ok x ↦ refl | Err e ↦ refl ]) (combine_keeps m laws row x i z.answer z.after refl o d ss rows);
        records = refl;
        answers = done S A z.answer;
      }
  call_kept o d (Merge i j) recs row ss rows h =
      let z = board_merged m row i j (slice_get row i) (slice_get row j) in
      record {
        board = kept_answered (λ u. Done) z.answer (elim [ Ok x ↦ refl | Err e ↦ refl ]) (merge_keeps m laws row i j z.answer z.after refl o d ss rows);
        records = refl;
        answers = done S A z.answer;
      }
  call_kept o d (Flush i) recs row ss rows h =
      let r = site_scalar m (slice_get row i) in
      record {
        board = kept_answered Flushed r (elim [ Ok x ↦ refl | Err e ↦ refl ]) (clear_keeps m laws row (scalar_now m) i r _ refl refl o d ss rows);
        records = refl;
        answers = read_answered Flushed m o d (sheet_at ss i) (m.reads o d) r (scalar_read m laws row i r refl o d ss rows);
      }
  call_kept o d (Finish i) recs row ss rows h =
      let r = site_answer m (slice_get row i) in
      record {
        board = kept_answered Finished r (elim [ Ok x ↦ refl | Err e ↦ refl ]) (clear_keeps m laws row (answer_now m) i r _ refl refl o d ss rows);
        records = refl;
        answers = read_answered Finished m o d (sheet_at ss i) (m.final o d) r (answer_read m laws row i r refl o d ss rows);
      }
  call_kept o d (Reset i) recs row ss rows h =
      let r = site_reset (slice_get row i) in
      record {
        board = kept_answered (λ u. Done) r (elim [ Ok x ↦ refl | Err e ↦ refl ]) (clear_keeps m laws row (λ a. tt) i r _ refl refl o d ss rows);
        records = refl;
        answers = done S A r;
      }

  pub call_keeps : (x : Call C S) (recs : List Statistics) (row : List (Accumulator V O P S A)) (z : Performed V O P S A) → performed m mean x recs row ≡ z → CallKeeps m mean x recs row z
  call_keeps x recs row z e o d ss rows h = rw (← e) (call_kept o d x recs row ss rows h)

  -- ---- every call of a page

  pub every_call_keeps : (page : List (Line C S A)) (recs : List Statistics) (row : List (Accumulator V O P S A)) → EveryCallKeeps m mean page recs row
  every_call_keeps [] recs row o d ss rows = tt
  every_call_keeps (l ∷ ls) recs row o d ss rows =
      λ h.
      let z = performed m mean l.call recs row in
      let k = call_kept o d l.call recs row ss rows h in
      (k, every_call_keeps ls z.records z.row o d (sheets_after mean d l.call ss z.answer) k.board.sheets)

  sites_kept : (o : O) (d : DType) (page : List (Line C S A)) (recs : List Statistics) (row : List (Accumulator V O P S A)) (ss : List (Sheet S)) → Rows m o d ss row → PageTruthful m mean page recs row → Rows m o d (sheets_page mean d (ran m mean page recs row).page ss) (ran m mean page recs row).row
  sites_kept o d [] recs row ss rows h = rows
  sites_kept o d (l ∷ ls) recs row ss rows h =
      let z = performed m mean l.call recs row in
      sites_kept o d ls z.records z.row (sheets_after mean d l.call ss z.answer) (call_kept o d l.call recs row ss rows h.0).board.sheets h.1

  pub sites_keep : (page : List (Line C S A)) (recs : List Statistics) (row : List (Accumulator V O P S A)) (z : RanPage C V O P S A) → ran m mean page recs row ≡ z → SitesKeep m mean page recs row z.page z.row
  sites_keep page recs row z e o d ss rows h = rw (← e) (sites_kept o d page recs row ss rows h)
