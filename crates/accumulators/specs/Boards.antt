-- A board: what each call on a row of accumulators answers and leaves. Assumes nothing.
-- The site that a call names is looked up first and handed on last, so that each definition goes by cases.
use Rattle.std.specs.Prelude.{◌≡◌, ℕ, Bool, true, false, cond, List, [], replicate, Some, None, Ok, Err, Option, Result, ◌==◌, nat_lt, slice_set}
use Rattle.dtype.specs.declared.ptype.DType.{DType}
use Rattle.dtype.specs.declared.refusal.Refusal.{Refusal}
use Rattle.dtype.specs.declared.refusal.Refusal.TheVariants.{BoardSize, NoSuchSite, SameSite}
use Rattle.dtype.specs.declared.statistics.Statistics.{Statistics}
use Rattle.columns.specs.Columns.{Meaning}
use Rattle.aggregates.specs.Model.{Model}
use Rattle.accumulators.specs.declared.accumulator.Accumulator.{Accumulator}
use Rattle.accumulators.specs.Accumulators.{Ran, Told, unused, with_partial, saturated_now, scalar_now, answer_now, accumulated, combined, merged_into}

-- a row has 1 to 1,024 accumulators
abbrev pub is_board_size : ℕ → Bool
is_board_size n = cond (n == 0) false (cond (nat_lt 1024 n) false true)

-- the check of a row's size
abbrev pub size_checked : ℕ → Result (Unit {0}) Refusal
size_checked n = cond (is_board_size n) (Ok tt) (Err BoardSize)

-- the sites of a new board: every accumulator new, and none over a row of another size
abbrev pub new_row : {V O P S A : Type 0} → ℕ → O → DType → List (Accumulator V O P S A)
new_row n o d = cond (is_board_size n) (replicate n (unused o d)) []

-- ---- the six calls

abbrev pub board_accumulated : {V O P S A : Type 0} → Model O P S A → Meaning → Statistics → List (Accumulator V O P S A) → ℕ → Option (Accumulator V O P S A) → Ran (List (Accumulator V O P S A))
board_accumulated m c k row i None = record { answer = Err NoSuchSite; stats = k; after = row }
board_accumulated m c k row i (Some a) = record { answer = (accumulated m c k a).answer; stats = (accumulated m c k a).stats; after = slice_set row i (accumulated m c k a).after }

abbrev pub board_combined : {V O P S A : Type 0} → Model O P S A → S → List (Accumulator V O P S A) → ℕ → Option (Accumulator V O P S A) → Told (List (Accumulator V O P S A))
board_combined m x row i None = record { answer = Err NoSuchSite; after = row }
board_combined m x row i (Some a) = record { answer = (combined m x a).answer; after = slice_set row i (combined m x a).after }

-- the partial of the second site moves to the first
abbrev pub moves : {V O P S A : Type 0} → Model O P S A → List (Accumulator V O P S A) → ℕ → ℕ → Accumulator V O P S A → Accumulator V O P S A → List (Accumulator V O P S A)
moves m row i j a b = slice_set (slice_set row j (with_partial b None)) i (merged_into m a b.partial)

abbrev pub board_merged : {V O P S A : Type 0} → Model O P S A → List (Accumulator V O P S A) → ℕ → ℕ → Option (Accumulator V O P S A) → Option (Accumulator V O P S A) → Told (List (Accumulator V O P S A))
board_merged m row i j None b = record { answer = Err NoSuchSite; after = row }
board_merged m row i j (Some a) None = record { answer = Err NoSuchSite; after = row }
board_merged m row i j (Some a) (Some b) = cond (i == j) (record { answer = Err SameSite; after = row }) (record { answer = Ok tt; after = moves m row i j a b })

-- what is read of a site, and a refusal where there is none
abbrev pub site_read : {X Y : Type 0} → (X → Y) → Option X → Result Y Refusal
site_read f None = Err NoSuchSite
site_read f (Some a) = Ok (f a)

-- What a call at a site answers and leaves, by what it may answer and leave of an accumulator; without the site it is refused.
abbrev pub CallsSite : {X Y : Type 0} → (X → Y → X → Type 0) → List X → ℕ → Option X → Result Y Refusal → List X → Type 0
CallsSite Met row i None r row' = (r ≡ Err NoSuchSite) × (row' ≡ row)
CallsSite {X} {Y} Met row i (Some a) r row' = (y : Y) × (b : X) × Met a y b × (r ≡ Ok y) × (row' ≡ slice_set row i b)

-- a site that has no partial any more
abbrev pub board_cleared : {V O P S A : Type 0} → List (Accumulator V O P S A) → ℕ → Option (Accumulator V O P S A) → List (Accumulator V O P S A)
board_cleared row i None = row
board_cleared row i (Some a) = slice_set row i (with_partial a None)

-- reset, flush and finish leave a cleared site; a reset answers nothing more
abbrev pub site_reset : {X : Type 0} → Option X → Result (Unit {0}) Refusal
site_reset site = site_read (λ a. tt) site

-- ---- the questions, which flush and finish answer too
abbrev pub site_scalar : {V O P S A : Type 0} → Model O P S A → Option (Accumulator V O P S A) → Result S Refusal
site_scalar m site = site_read (scalar_now m) site

abbrev pub site_answer : {V O P S A : Type 0} → Model O P S A → Option (Accumulator V O P S A) → Result A Refusal
site_answer m site = site_read (answer_now m) site

abbrev pub site_saturated : {V O P S A : Type 0} → Model O P S A → Option (Accumulator V O P S A) → Result Bool Refusal
site_saturated m site = site_read (saturated_now m) site
