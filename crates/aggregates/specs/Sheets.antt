-- Sheets: what a running total stands for, in no order. Assumes nothing.
use Rattle.std.specs.Prelude.{List, [], ◌∷◌}
use Rattle.column_sums.specs.Lots.{Lot}

-- An item of a sheet: a lot, which is a value and how often it came, or a partial scalar that was handed in.
pub data Item (S : Type 0) : Type 0 where
  lot : Lot → Item S
  handed : S → Item S

abbrev pub Sheet : Type 0 → Type 0
Sheet S = List (Item S)

-- lots as items
abbrev pub lots : {S : Type 0} → List Lot → Sheet S
lots [] = []
lots (l ∷ ls) = lot l ∷ lots ls

-- the same items in another order
pub data Reordered {X : Type 0} : List X → List X → Type 0 where
  same : {s : List X} → Reordered s s
  keep : {s t : List X} (x : X) → Reordered s t → Reordered (x ∷ s) (x ∷ t)
  swap : {s : List X} (x y : X) → Reordered (x ∷ y ∷ s) (y ∷ x ∷ s)
  then : {s t u : List X} → Reordered s t → Reordered t u → Reordered s u
