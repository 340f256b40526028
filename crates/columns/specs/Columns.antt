-- What a column means: its entries, stretches and lots, and its sum. Assumes nothing.
use Rattle.std.specs.Prelude.{◌≡◌, ℕ, zero, suc, ◌-◌, ◌<◌, Bool, true, false, cond, ◌&&◌, List, [], ◌∷◌, is_some, Some, None, Option, ◌==◌, nat_lt}
use Rattle.dtype.specs.declared.ptype.DType.{DType}
use Rattle.dtype.specs.declared.ptype.Family.{Family}
use Rattle.dtype.specs.declared.value.Value.{Value}
use Rattle.dtype.specs.Types.{family_of, narrow}
use Rattle.dtype.specs.Values.{ValueOf}
use Rattle.sums.specs.declared.state.SumState.{SumState}
use Rattle.columns.specs.States.{add_span, times_added}
use Rattle.columns.specs.Stretches.{begins}

-- A column of `len` entries, each null or a value. Nothing is built of them, so a length may be any number.
-- Whatever lies in a null's place is no part of it, nor are entries at `len` and past it.
pub record Meaning : Type 0 where
  pub dtype : DType
  pub len : ℕ
  pub entry : ℕ → Option Value
  pub constant : Bool

abbrev pub valid : Meaning → ℕ → Bool
valid c i = is_some (c.entry i)

-- Entries are of the dtype, so that without the nullable flag there is no null; a constant's are all the same.
pub record Proper (c : Meaning) : Type 0 where
  pub typed : (i : ℕ) → i < c.len → ValueOf c.dtype (c.entry i)
  pub same : c.constant ≡ true → (i : ℕ) → i < c.len → c.entry i ≡ c.entry 0

-- the entry at i, absent past the end
abbrev pub entry_at : Meaning → ℕ → Option (Option Value)
entry_at c i = cond (nat_lt i c.len) (Some (c.entry i)) None

-- what a constant column holds, and none where the column is not constant
abbrev pub constant_of : Meaning → Option (Option Value)
constant_of c = cond c.constant (Some (c.entry 0)) None

-- ---- stretches

abbrev pub some : ℕ → Bool
some zero = false
some (suc n) = true

-- a value in front: in the first stretch, or in a new one
abbrev pub grown : Bool → Value → List (List Value) → List (List Value)
grown true x [] = (x ∷ []) ∷ []
grown true x (s ∷ ss) = (x ∷ s) ∷ ss
grown false x ss = (x ∷ []) ∷ ss

-- an entry in front, where the flag says whether the entry behind it is valid
abbrev pub opened : Option Value → Bool → List (List Value) → List (List Value)
opened None next ss = ss
opened (Some x) next ss = grown next x ss

-- the longest runs of valid entries among the n from i on
abbrev pub stretches_from : (ℕ → Option Value) → ℕ → ℕ → List (List Value)
stretches_from entry i zero = []
stretches_from entry i (suc n) = opened (entry i) (some n && is_some (entry (suc i))) (stretches_from entry (suc i) n)

-- the valid entries from i on, n at the most, up to the first null
abbrev pub lead : Option Value → List Value → List Value
lead None xs = []
lead (Some x) xs = x ∷ xs

abbrev pub run_from : (ℕ → Option Value) → ℕ → ℕ → List Value
run_from entry i zero = []
run_from entry i (suc n) = lead (entry i) (run_from entry (suc i) n)

-- ---- sums

-- A constant added as one step: nothing where it is null or has no entry.
abbrev pub whole_sum : Family → Bool → Option Value → ℕ → SumState → Option SumState
whole_sum g skip None n st = Some st
whole_sum g skip (Some x) n st = cond (n == 0) (Some st) (times_added g skip x n st)

-- The stretch that starts at an entry added to a state: nothing where none starts.
abbrev pub stretch_sum_by : Bool → Meaning → Bool → ℕ → SumState → Option SumState
stretch_sum_by true c skip at st = cond (at == 0) (whole_sum (family_of c.dtype.ptype) skip (c.entry 0) c.len st) (Some st)
stretch_sum_by false c skip at st =
    cond (nat_lt at c.len && begins (valid c) at)
    (add_span (family_of c.dtype.ptype) (narrow c.dtype.ptype) skip (run_from c.entry at (c.len - at)) st)
    (Some st)

abbrev pub stretch_sum : Meaning → Bool → ℕ → SumState → Option SumState
stretch_sum c skip at st = stretch_sum_by c.constant c skip at st
