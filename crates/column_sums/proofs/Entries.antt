-- A column's stretches hold its valid entries, and a lot of 1 is worth its value. Assumes nothing.
use Rattle.std.proofs.Common.{◌≡◌, ℕ, zero, suc, ◌+◌, Bool, true, false, ◌&&◌, List, [], ◌∷◌, ℤ, pos, ◌+ℤ◌, is_some, Some, None, fold, sum_by, Option, sym, refl, ap, ◌∙◌}
use Rattle.std.specs.List.{flat_map}
use Rattle.dtype.specs.declared.ptype.Family.{Family}
use Rattle.dtype.specs.declared.value.Value.{Value}
use Rattle.sums.specs.Sums.{signed64, exact_total}
use Rattle.columns.specs.States.{add_stretches}
use Rattle.columns.specs.Columns.{Meaning, some, grown, opened, stretches_from}
use Rattle.column_sums.specs.Lots.{Lot, keep_entry, values_from, single, lots_by}

-- after an overflow nothing more is added
pub none_stays : (g : Family) (small skip : Bool) (ss : List (List Value)) → add_stretches g small skip ss None ≡ None
none_stays g small skip [] = refl
none_stays g small skip (xs ∷ ss) = none_stays g small skip ss

-- the values of all stretches, one stretch after the other
abbrev pub flat : List (List Value) → List Value
flat ss = flat_map (λ s. s) ss

flat_grown : (next : Bool) (x : Value) (ss : List (List Value)) → flat (grown next x ss) ≡ x ∷ flat ss
flat_grown true x [] = refl
flat_grown true x (s ∷ ss) = refl
flat_grown false x ss = refl

flat_opened : (o : Option Value) (next : Bool) (ss : List (List Value)) → flat (opened o next ss) ≡ keep_entry o (flat ss)
flat_opened None next ss = refl
flat_opened (Some x) next ss = flat_grown next x ss

-- the stretches hold the valid entries in their order
pub flat_stretches : (entry : ℕ → Option Value) (i n : ℕ) → flat (stretches_from entry i n) ≡ values_from entry i n
flat_stretches entry i zero = refl
flat_stretches entry i (suc n) =
    flat_opened (entry i) (some n && is_some (entry (suc i))) (stretches_from entry (suc i) n)
    ∙ ap (keep_entry (entry i)) (flat_stretches entry (suc i) n)

-- a fold over lots of 1 is a fold over their values
single_folded : {Y : Type 0} (f : Y → Lot → Y) (g : Y → Value → Y) → ((y : Y) (x : Value) → f y (record { value = x; times = 1 }) ≡ g y x)
    → (a : Y) (xs : List Value) → fold f a (single xs) ≡ fold g a xs
single_folded f g h a [] = refl
single_folded f g h a (x ∷ xs) = ap (λ y. fold f y (single xs)) (h a x) ∙ single_folded f g h (g a x) xs

single_sum : (f : Lot → ℕ) (g : Value → ℕ) → ((x : Value) → f (record { value = x; times = 1 }) ≡ g x) → (xs : List Value) → sum_by f (single xs) ≡ sum_by g xs
single_sum f g h xs = single_folded (λ n l. n + f l) (λ n x. n + g x) (λ n x. ap (λ m. n + m) (h x)) 0 xs

single_total : (f : Lot → ℤ) (g : Value → ℤ) → ((x : Value) → f (record { value = x; times = 1 }) ≡ g x) → (xs : List Value)
    → exact_total signed64 f (single xs) ≡ exact_total signed64 g xs
single_total f g h xs = single_folded (λ z l. z +ℤ f l) (λ z x. z +ℤ g x) (λ z x. ap (λ y. z +ℤ y) (h x)) (pos 0) xs

-- what stands on the values of the stretches stands on their lots
pub stretches_sum : (f : Lot → ℕ) (g : Value → ℕ) → ((x : Value) → f (record { value = x; times = 1 }) ≡ g x) → (c : Meaning) → sum_by g (flat (stretches_from c.entry 0 c.len)) ≡ sum_by f (lots_by false c)
stretches_sum f g h c = ap (sum_by g) (flat_stretches c.entry 0 c.len) ∙ sym (single_sum f g h (values_from c.entry 0 c.len))

pub stretches_total : (f : Lot → ℤ) (g : Value → ℤ) → ((x : Value) → f (record { value = x; times = 1 }) ≡ g x) → (c : Meaning)
    → exact_total signed64 g (flat (stretches_from c.entry 0 c.len)) ≡ exact_total signed64 f (lots_by false c)
stretches_total f g h c = ap (exact_total signed64 g) (flat_stretches c.entry 0 c.len) ∙ sym (single_total f g h (values_from c.entry 0 c.len))
