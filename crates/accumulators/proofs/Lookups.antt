-- Looking up an element of a list, and writing one. Assumes nothing.
use Rattle.std.proofs.Common.{◌≡◌, ℕ, ◌<◌, ◌≤◌, List, length, set, Some, None, arith}
use Rattle.std.specs.List.{slice_get}
use Rattle.std.proofs.lemmas.List.{set-get_or, get_or-set_other, length-set}
use Rattle.std.proofs.lemmas.Option.{get_or_from_slice_get, slice_get_cases, slice_get-get_or, slice_get_past}
use Rattle.std.proofs.lemmas.Bool.{cases_lt}

-- an element that is not found is past the end, and one in range is found
pub is_past : {X : Type 0} (xs : List X) (i : ℕ) → slice_get xs i ≡ None → length xs ≤ i
is_past xs i e = grind (arith, slice_get_cases xs i)

pub there : {X : Type 0} (xs : List X) (i : ℕ) → i < length xs → (x : X) × (slice_get xs i ≡ Some x)
there xs i h = grind (arith, slice_get_cases xs i)

-- writing what stands there changes nothing
pub set_there : {X : Type 0} (xs : List X) (i : ℕ) (x : X) → slice_get xs i ≡ Some x → set xs i x ≡ xs
set_there xs i x e = cc (get_or_from_slice_get xs i x x e, set-get_or xs i x)

-- a write changes no other element
pub nth_set_other : {X : Type 0} (xs : List X) (i k : ℕ) (x : X) → (k ≡ i → ⊥) → slice_get (set xs i x) k ≡ slice_get xs k
nth_set_other xs i k x ne = grind (arith, cases_lt k (length xs), slice_get-get_or xs k x, slice_get-get_or (set xs i x) k x, slice_get_past xs k, slice_get_past (set xs i x) k, get_or-set_other, length-set)
