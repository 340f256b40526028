-- What the laws of an aggregate give of a board: each call keeps the sheets of its row. Assumes nothing.
use Rattle.std.proofs.Common.{◌≡◌, ℕ, zero, suc, ◌<◌, Bool, true, false, ◌⊎◌, List, [], ◌∷◌, ◌++◌, length, set, replicate, Some, None, Ok, Err, Option, Result, sym, refl, ap, ◌∙◌, inl, inr, ⊎_elim, MatchResult}
use lib.ListN.{length-replicate}
use Rattle.std.specs.List.{slice_get}
use Rattle.std.proofs.lemmas.Bool.{cond_both, cases_Bool, cases_eq, eq-eqb, ne_eqb}
use Rattle.std.proofs.lemmas.Option.{slice_get_within}
use Rattle.dtype.specs.declared.ptype.DType.{DType}
use Rattle.dtype.specs.declared.refusal.Refusal.{Refusal}
use Rattle.dtype.specs.declared.statistics.Statistics.{Statistics}
use Rattle.dtype.specs.Same.{same_dtype, type_same}
use Rattle.dtype.specs.Types.{has_same_type}
use Rattle.columns.specs.Columns.{Meaning, Proper}
use Rattle.column_sums.specs.Records.{Truthful}
use Rattle.aggregates.specs.Model.{Model, Lawful, started}
use Rattle.aggregates.specs.Sheets.{Sheet, handed}
use Rattle.accumulators.specs.declared.accumulator.Accumulator.{Accumulator}
use Rattle.accumulators.specs.Accumulators.{Ran, Told, Fits, unused, with_partial, folded, accumulated, saturated_now, saturated_by}
use Rattle.accumulators.specs.Boards.{new_row, is_board_size, board_accumulated, board_combined, board_merged, board_cleared, site_read, site_scalar, site_answer, site_saturated}
use Rattle.accumulators.specs.BoardSheets.{Rows, sheet_at, sheets_accumulated, sheets_combined, sheets_merged, sheets_cleared, TakesColumn, RefusesColumn, TakesScalar, RefusesScalar, TwoSites, NotTwoSites, NoSite, Kept, RecordKept, ReadFrom, NewBoard, AccumulateKeeps, CombineKeeps, MergeKeeps, ClearKeeps, ScalarRead, AnswerRead, SaturationRead}
use Rattle.accumulators.proofs.Accumulating.{Added, moved, allowed_started, fits_taken, fits_joins, adds_column}
use Rattle.accumulators.proofs.Lookups.{is_past, set_there, nth_set_other}

-- ---- rows and their sheets

module _ {V O P S A : Type 0} (m : Model O P S A) where
  rows_at : (o : O) (d : DType) (ss : List (Sheet S)) (row : List (Accumulator V O P S A)) (i : ℕ) (a : Accumulator V O P S A) → Rows m o d ss row → slice_get row i ≡ Some a → Fits m o d (sheet_at ss i) a
  rows_at o d [] [] i a r e = absurd cc
  rows_at o d [] (x ∷ row) i a r e = absurd r
  rows_at o d (s ∷ ss) [] i a r e = absurd r
  rows_at o d (s ∷ ss) (x ∷ row) zero a r e = let same : x ≡ a = cc in rw same at r.0
  rows_at o d (s ∷ ss) (x ∷ row) (suc i) a r e = rows_at o d ss row i a r.1 e

  rows_set : (o : O) (d : DType) (ss : List (Sheet S)) (row : List (Accumulator V O P S A)) (i : ℕ) (s : Sheet S) (a : Accumulator V O P S A) → Rows m o d ss row → Fits m o d s a → Rows m o d (set ss i s) (set row i a)
  rows_set o d [] [] i s a r f = tt
  rows_set o d [] (x ∷ row) i s a r f = absurd r
  rows_set o d (t ∷ ss) [] i s a r f = absurd r
  rows_set o d (t ∷ ss) (x ∷ row) zero s a r f = (f, r.1)
  rows_set o d (t ∷ ss) (x ∷ row) (suc i) s a r f = (r.0, rows_set o d ss row i s a r.1 f)

-- a cleared site
fits_cleared : {V O P S A : Type 0} (m : Model O P S A) (o : O) (d : DType) (s : Sheet S) (a : Accumulator V O P S A) → Fits m o d s a → Fits m o d [] (with_partial a None)
fits_cleared m o d s a f = record { options = f.options; dtype = f.dtype; holds = refl }

rows_unused : (V : Type 0) {O P S A : Type 0} (m : Model O P S A) (o : O) (d : DType) (n : ℕ) → Rows {V = V} m o d (replicate n []) (replicate n (unused o d))
rows_unused V m o d zero = tt
rows_unused V m o d (suc n) = (record { options = refl; dtype = refl; holds = refl }, rows_unused V m o d n)

-- every site of a new board has an empty sheet
pub new_board : (V : Type 0) {O P S A : Type 0} (m : Model O P S A) (n : ℕ) (o : O) (d : DType) (row : List (Accumulator V O P S A)) → row ≡ new_row n o d → NewBoard m o d row
new_board V {O} {P} {S} {A} m n o d row e =
    rw e
    (cond_both (is_board_size n) (replicate n (unused o d)) [] (NewBoard m o d)
    (λ y. rw (length-replicate n (unused {V = V} {P = P} {S = S} {A = A} o d)) (rows_unused V m o d n))
    (λ no'. tt))

-- ---- accumulate

abbrev Columned : {V O P S A : Type 0} → Model O P S A → O → DType → Meaning → Statistics → List (Accumulator V O P S A) → ℕ → List (Sheet S) → Result (Unit {0}) Refusal → Statistics → List (Accumulator V O P S A) → Type 0
Columned m o d c k row i ss r k' row' = Kept m o d row (λ n. n ≡ i) (TakesColumn m d c i row) (RefusesColumn m d c i row) (sheets_accumulated d c i ss) r row' × RecordKept c k r k'

module _ {V O P S A : Type 0} (m : Model O P S A) (laws : Lawful m) (row : List (Accumulator V O P S A)) (i : ℕ) (o : O) (d : DType) (ss : List (Sheet S)) where
  -- a call that leaves the row as it was
  row_kept : {X : Type 0} {Named : ℕ → Type 0} {Takes : Type 0} {Refuses : Refusal → Type 0} {after : Result X Refusal → List (Sheet S)} {r : Result X Refusal} → MatchResult r (λ _. Takes) Refuses → Rows m o d (after r) row → Kept m o d row Named Takes Refuses after r row
  row_kept refusals rows = record { refusals = refusals; sheets = rows; elsewhere = λ j ne. refl; refused_leaves = λ x q. refl }

  -- an accepted call that writes one site
  site_kept : {X : Type 0} {Takes : Type 0} {Refuses : Refusal → Type 0} {after : Result X Refusal → List (Sheet S)} {x : X} (a : Accumulator V O P S A) → Takes → Rows m o d (after (Ok x)) (set row i a) → Kept m o d row (λ n. n ≡ i) Takes Refuses after (Ok x) (set row i a)
  site_kept a takes rows = record { refusals = takes; sheets = rows; elsewhere = λ j ne. nth_set_other row i j _ ne; refused_leaves = λ f q. cc }

  -- a column of another dtype changes nothing
  unmoved : (c : Meaning) (k : Statistics) (a : Accumulator V O P S A) (r : Result (Unit {0}) Refusal) → Truthful c k → Rows m o d ss row → slice_get row i ≡ Some a → has_same_type c.dtype d ≡ false → MatchResult r (λ _. TakesColumn m d c i row) (RefusesColumn m d c i row) → Columned m o d c k row i ss r k (set row i a)
  unmoved c k a r h rows e n refusals = rw (set_there row i a e) (row_kept refusals (kept r), record { truthful = h; gains = record { nans = refl; sum = inl refl }; refused_leaves = λ x q. refl })
    where
      kept : (r : Result (Unit {0}) Refusal) → Rows m o d (sheets_accumulated d c i ss r) row
      kept (Ok u) = rw n rows
      kept (Err x) = rows

  other_column : (c : Meaning) (k : Statistics) (a : Accumulator V O P S A) → Truthful c k → Rows m o d ss row → slice_get row i ≡ Some a → has_same_type c.dtype d ≡ false → has_same_type c.dtype a.dtype ≡ false → Columned m o d c k row i ss (accumulated m c k a).answer (accumulated m c k a).stats (set row i (accumulated m c k a).after)
  other_column c k a h rows e n n' =
      let site = ap (site_saturated m) e in
      cond_both (saturated_now m a) _ _ (λ (z : Ran (Accumulator V O P S A)). Columned m o d c k row i ss z.answer z.stats (set row i z.after))
      (λ y. unmoved c k a _ h rows e n (inl (site ∙ ap Ok y)))
      (λ x. rw n' (unmoved c k a _ h rows e n (inr (refl, site ∙ ap Ok x, λ q. cc (type_same c.dtype d q)))))

  added_column : (c : Meaning) (k : Statistics) (a : Accumulator V O P S A) (z : Ran (Accumulator V O P S A)) → Rows m o d ss row → slice_get row i ≡ Some a → has_same_type c.dtype d ≡ true → Added m o d c k (sheet_at ss i) z → Columned m o d c k row i ss z.answer z.stats (set row i z.after)
  added_column c k a z rows e y x =
      rw x.answered (
        site_kept _ (inr (slice_get_within row i a e, same_dtype c.dtype d y)) (rw y (rows_set m o d ss row i _ z.after rows x.fits)),
        record { truthful = x.truthful; gains = x.gains; refused_leaves = λ f q. cc },
      )

  accumulate_site : (c : Meaning) (k : Statistics) → Proper c → Truthful c k → Rows m o d ss row → (site : Option (Accumulator V O P S A)) → slice_get row i ≡ site → Columned m o d c k row i ss (board_accumulated m c k row i site).answer (board_accumulated m c k row i site).stats (board_accumulated m c k row i site).after
  accumulate_site c k good h rows None e = (
    row_kept (inl (refl, is_past row i e)) rows,
    record { truthful = h; gains = record { nans = refl; sum = inl refl }; refused_leaves = λ x q. refl },
  )
  accumulate_site c k good h rows (Some a) e =
      let f = rows_at m o d ss row i a rows e in
      ⊎_elim
      (λ y. added_column c k a _ rows e y (adds_column m laws o d c k (sheet_at ss i) a (same_dtype c.dtype d y) good h f))
      (λ n. other_column c k a h rows e n (rw f.dtype n))
      (cases_Bool (has_same_type c.dtype d))

  -- ---- combine

  fits_combines : (x : S) (s : Sheet S) (a : Accumulator V O P S A) → m.takes o d x ≡ true → Fits m o d s a → Fits m o d (s ++ handed x ∷ []) (folded m (m.taken a.options a.dtype x) a)
  fits_combines x s a h f =
      moved (λ y z. Fits m o d (s ++ handed x ∷ []) (folded m (m.taken y z x) a)) o a.options d a.dtype f.options f.dtype
      (fits_joins m laws o d s (handed x ∷ []) a (folded m (m.taken o d x) (unused o d)) f (fits_taken m laws o d x h))

  abbrev Scalared : S → Result (Unit {0}) Refusal → List (Accumulator V O P S A) → Type 0
  Scalared x r row' = Kept m o d row (λ n. n ≡ i) (TakesScalar m o d x i row) (RefusesScalar m o d x i row) (sheets_combined x i ss) r row'

  combine_site : (x : S) → Rows m o d ss row → (site : Option (Accumulator V O P S A)) → slice_get row i ≡ site → Scalared x (board_combined m x row i site).answer (board_combined m x row i site).after
  combine_site x rows None e = row_kept (inl (refl, is_past row i e)) rows
  combine_site x rows (Some a) e =
      let f = rows_at m o d ss row i a rows e in
      cond_both (m.takes a.options a.dtype x) _ _ (λ (z : Told (Accumulator V O P S A)). Scalared x z.answer (set row i z.after))
      (λ y.
      let y' = rw (f.options, f.dtype) at y in
      site_kept _ (slice_get_within row i a e, laws.takes_no_other o d x y') (rows_set m o d ss row i _ _ rows (fits_combines x (sheet_at ss i) a y' f)))
      (λ n. rw (set_there row i a e) (row_kept (inr (refl, slice_get_within row i a e, λ q. cc (laws.takes_its_dtype o d x q))) rows))

  -- ---- merge

  abbrev Merged : ℕ → Told (List (Accumulator V O P S A)) → Type 0
  Merged j z = Kept m o d row (λ n. (n ≡ i) ⊎ (n ≡ j)) (TwoSites i j row) (NotTwoSites i j row) (sheets_merged i j ss) z.answer z.after

  merge_site : (j : ℕ) → Rows m o d ss row → (a b : Option (Accumulator V O P S A)) → slice_get row i ≡ a → slice_get row j ≡ b → Merged j (board_merged m row i j a b)
  merge_site j rows None b e f = row_kept (inl (refl, inl (is_past row i e))) rows
  merge_site j rows (Some a) None e f = row_kept (inl (refl, inr (is_past row j f))) rows
  merge_site j rows (Some a) (Some b) e f =
      let fa = rows_at m o d ss row i a rows e in
      let fb = rows_at m o d ss row j b rows f in
      ⊎_elim
      (λ y. rw (eq-eqb i j y) (row_kept (inr (refl, slice_get_within row i a e, slice_get_within row j b f, y)) rows))
      (λ n. rw (ne_eqb i j n)
      (record {
        refusals = (slice_get_within row i a e, slice_get_within row j b f, n);
        sheets = rows_set m o d (set ss j []) (set row j (with_partial b None)) i _ _ (rows_set m o d ss row j [] (with_partial b None) rows (fits_cleared m o d _ b fb)) (fits_joins m laws o d (sheet_at ss i) (sheet_at ss j) a b fa fb);
        elsewhere = λ k ne. nth_set_other (set row j (with_partial b None)) i k _ (λ q. ne (inl q)) ∙ nth_set_other row j k _ (λ q. ne (inr q));
        refused_leaves = λ g q. cc;
      }))
      (cases_eq i j)

  -- ---- reset, flush and finish

  clear_site : {X : Type 0} (read : Accumulator V O P S A → X) → Rows m o d ss row → (site : Option (Accumulator V O P S A)) → slice_get row i ≡ site → Kept m o d row (λ n. n ≡ i) (i < length row) (NoSite i row) (sheets_cleared i ss) (site_read read site) (board_cleared row i site)
  clear_site read rows None e = row_kept (refl, is_past row i e) rows
  clear_site read rows (Some a) e = site_kept _ (slice_get_within row i a e) (rows_set m o d ss row i [] (with_partial a None) rows (fits_cleared m o d _ a (rows_at m o d ss row i a rows e)))

  -- ---- the questions

  reads_site : {X : Type 0} (f : O → DType → P → X) → Rows m o d ss row → (site : Option (Accumulator V O P S A)) → slice_get row i ≡ site → ReadFrom m o d (sheet_at ss i) (f o d) (site_read (λ a. f a.options a.dtype (started m a.options a.dtype a.partial)) site)
  reads_site f rows None e = tt
  reads_site f rows (Some a) e =
      let h = rows_at m o d ss row i a rows e in
      (started m o d a.partial, allowed_started m laws o d (sheet_at ss i) a.partial h.holds, rw (h.options, h.dtype))

  saturated_started : (p : Option P) → saturated_by m o d p ≡ m.saturated o d (started m o d p)
  saturated_started None = sym (laws.empty_not_saturated o d)
  saturated_started (Some p) = refl

  saturation_site : Rows m o d ss row → (site : Option (Accumulator V O P S A)) → slice_get row i ≡ site → ReadFrom m o d (sheet_at ss i) (m.saturated o d) (site_saturated m site)
  saturation_site rows None e = tt
  saturation_site rows (Some a) e =
      let h = rows_at m o d ss row i a rows e in
      (started m o d a.partial, allowed_started m laws o d (sheet_at ss i) a.partial h.holds, rw (h.options, h.dtype) (saturated_started a.partial))

-- ---- each call of a board

module _ {V O P S A : Type 0} (m : Model O P S A) (laws : Lawful m) (row : List (Accumulator V O P S A)) where
  pub accumulate_keeps : (c : Meaning) (k : Statistics) (i : ℕ) (r : Result (Unit {0}) Refusal) (k' : Statistics) (row' : List (Accumulator V O P S A)) → Proper c → board_accumulated m c k row i (slice_get row i) ≡ record { answer = r; stats = k'; after = row' } → AccumulateKeeps m row c k i r k' row'
  accumulate_keeps c k i r k' row' good e o d ss rows h =
      rw e at (accumulate_site m laws row i o d ss c k good h rows (slice_get row i) refl)

  pub combine_keeps : (x : S) (i : ℕ) (r : Result (Unit {0}) Refusal) (row' : List (Accumulator V O P S A)) → board_combined m x row i (slice_get row i) ≡ record { answer = r; after = row' } → CombineKeeps m row x i r row'
  combine_keeps x i r row' e o d ss rows = rw e at (combine_site m laws row i o d ss x rows (slice_get row i) refl)

  pub merge_keeps : (i j : ℕ) (r : Result (Unit {0}) Refusal) (row' : List (Accumulator V O P S A)) → board_merged m row i j (slice_get row i) (slice_get row j) ≡ record { answer = r; after = row' } → MergeKeeps m row i j r row'
  merge_keeps i j r row' e o d ss rows = rw e at (merge_site m laws row i o d ss j rows (slice_get row i) (slice_get row j) refl refl)

  pub clear_keeps : {X : Type 0} (read : Accumulator V O P S A → X) (i : ℕ) (r : Result X Refusal) (row' : List (Accumulator V O P S A)) → r ≡ site_read read (slice_get row i) → row' ≡ board_cleared row i (slice_get row i) → ClearKeeps m row i r row'
  clear_keeps read i r row' e f o d ss rows = rw (e, f) (clear_site m laws row i o d ss read rows (slice_get row i) refl)

  pub scalar_read : (i : ℕ) (r : Result S Refusal) → r ≡ site_scalar m (slice_get row i) → ScalarRead m row i r
  scalar_read i r e o d ss rows = rw e (reads_site m laws row i o d ss m.reads rows (slice_get row i) refl)

  pub answer_read : (i : ℕ) (r : Result A Refusal) → r ≡ site_answer m (slice_get row i) → AnswerRead m row i r
  answer_read i r e o d ss rows = rw e (reads_site m laws row i o d ss m.final rows (slice_get row i) refl)

  pub saturation_read : (i : ℕ) (r : Result Bool Refusal) → r ≡ site_saturated m (slice_get row i) → SaturationRead m row i r
  saturation_read i r e o d ss rows = rw e (saturation_site m laws row i o d ss rows (slice_get row i) refl)
