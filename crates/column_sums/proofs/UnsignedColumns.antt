-- A column adds the exact total of its lots to an unsigned state. Assumes nothing.
use Rattle.std.proofs.Common.{◌≡◌, ℕ, ◌+◌, ◌*◌, ◌^◌, ◌<◌, ◌≤◌, Bool, true, false, cond, eqb, ltb, List, [], ◌∷◌, Some, None, sum_by, Option, sym, refl, ap, ◌∙◌, ⊎_elim, arith}
use Rattle.std.specs.Option.{option_map}
use Rattle.std.proofs.lemmas.List.Sums.{sum_by-append}
use Rattle.std.proofs.lemmas.Bool.{cases_lt, ltb-false, cond_both}
use Rattle.dtype.specs.declared.ptype.Family.TheVariants as family
use Rattle.dtype.specs.declared.value.Value.{Value}
use Rattle.dtype.specs.Values.{nat_of}
use Rattle.sums.specs.declared.state.SumState.{SumState}
use Rattle.sums.specs.declared.state.SumState.TheVariants.{Unsigned}
use Rattle.sums.specs.Sums.{unsigned64, checked}
use Rattle.sums.proofs.Products.{checked_over, checked_within}
use Rattle.sums.proofs.UnsignedTotals.{unsigned_total}
use Rattle.columns.specs.States.{add_stretches, onto, step_product, unsigned_span, unsigned_times}
use Rattle.columns.specs.Columns.{Meaning, whole_sum, stretches_from}
use Rattle.column_sums.specs.ColumnSums.{column_sum_by}
use Rattle.column_sums.specs.Lots.{nat_worth, nat_total, whole_lot, lots_by}
use Rattle.column_sums.proofs.Entries.{none_stays, flat, stretches_sum}

-- a total that 64 bits hold, as a state, or none
abbrev pub capped_total : ℕ → Option SumState
capped_total m = option_map Unsigned (checked unsigned64 m)

pub capped_within : (m : ℕ) → m < 2 ^ 64 → capped_total m ≡ Some (Unsigned m)
capped_within m h = ap (option_map Unsigned) (sym (checked_within m h))

pub capped_over : (m : ℕ) → 2 ^ 64 ≤ m → capped_total m ≡ None
capped_over m h = ap (option_map Unsigned) (sym (checked_over m h))

-- what adds w to every number that fits adds it to a total
onto_capped : (f : SumState → Option SumState) (w : ℕ) → ((a : ℕ) → a < 2 ^ 64 → f (Unsigned a) ≡ capped_total (a + w)) → (m : ℕ) → onto f (capped_total m) ≡ capped_total (m + w)
onto_capped f w h m =
    ⊎_elim (λ low. ap (onto f) (capped_within m low) ∙ h m low)
    (λ high. ap (onto f) (capped_over m high) ∙ sym (capped_over (m + w) (omega arith)))
    (cases_lt m (2 ^ 64))

onto_nothing : (f : SumState → Option SumState) → ((st : SumState) → f st ≡ Some st) → (o : Option SumState) → onto f o ≡ o
onto_nothing f h None = refl
onto_nothing f h (Some st) = h st

span_adds : (small : Bool) (xs : List Value) (a : ℕ) → a < 2 ^ 64 → unsigned_span small xs (Unsigned a) ≡ capped_total (a + sum_by nat_of xs)
span_adds small xs a low = ap (option_map Unsigned) (unsigned_total small nat_of a xs low)

stretches_add : (small skip : Bool) (ss : List (List Value)) (m : ℕ) → add_stretches family.Unsigned small skip ss (capped_total m) ≡ capped_total (m + sum_by nat_of (flat ss))
stretches_add small skip [] m = ap capped_total (omega arith)
stretches_add small skip (xs ∷ ss) m =
    ap (add_stretches family.Unsigned small skip ss) (onto_capped (unsigned_span small xs) (sum_by nat_of xs) (span_adds small xs) m)
    ∙ stretches_add small skip ss (m + sum_by nat_of xs)
    ∙ ap capped_total (omega (arith, sum_by-append nat_of xs (flat ss)))

-- a product that does not fit is no part of a total that does
product_adds : (w a : ℕ) → option_map Unsigned (step_product unsigned64 a w) ≡ capped_total (a + w)
product_adds w a =
    cond_both (ltb w (2 ^ 64)) (checked unsigned64 (a + w)) None (λ o. option_map Unsigned o ≡ capped_total (a + w)) (λ e. refl)
    (λ e. let over = ltb-false w (2 ^ 64) e in sym (capped_over (a + w) (omega arith)))

whole_adds : (skip : Bool) (o : Option Value) (n m : ℕ) → onto (whole_sum family.Unsigned skip o n) (capped_total m) ≡ capped_total (m + nat_total (whole_lot o n))
whole_adds skip None n m = onto_nothing (whole_sum family.Unsigned skip None n) (λ st. refl) (capped_total m) ∙ ap capped_total (omega arith)
whole_adds skip (Some x) n m = go (eqb n 0)
  where
    go : (b : Bool) → onto (λ st. cond b (Some st) (unsigned_times (nat_of x) n st)) (capped_total m) ≡ capped_total (m + nat_total (cond b [] (record { value = x; times = n } ∷ [])))
    go true = onto_nothing (λ st. Some st) (λ st. refl) (capped_total m) ∙ ap capped_total (omega arith)
    go false = onto_capped (unsigned_times (nat_of x) n) (nat_of x * n) (λ a low. product_adds (nat_of x * n) a) m ∙ ap capped_total (omega arith)

-- a column adds the exact total of its lots
pub column_adds_unsigned : (small b skip : Bool) (c : Meaning) (m : ℕ)
    → onto (column_sum_by family.Unsigned small b c skip) (option_map Unsigned (checked unsigned64 m)) ≡ option_map Unsigned (checked unsigned64 (m + nat_total (lots_by b c)))
column_adds_unsigned small true skip c m = whole_adds skip (c.entry 0) c.len m
column_adds_unsigned small false skip c m =
    started (capped_total m)
    ∙ stretches_add small skip (stretches_from c.entry 0 c.len) m
    ∙ ap (λ w. capped_total (m + w)) (stretches_sum nat_worth nat_of (λ x. omega arith) c)
  where
    started : (o : Option SumState) → onto (column_sum_by family.Unsigned small false c skip) o ≡ add_stretches family.Unsigned small skip (stretches_from c.entry 0 c.len) o
    started None = sym (none_stays family.Unsigned small skip (stretches_from c.entry 0 c.len))
    started (Some st) = refl
