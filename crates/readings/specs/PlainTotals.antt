-- Which numbers sums and counts read, from the partials that are allowed for a sheet. Assumes nothing.
use Rattle.std.proofs.Common.{◌≡◌, ℕ, ◌^◌, ◌<◌, ◌≤◌, ◌⊎◌, Bool, true, false, cond, Some, None, Option, sym, refl, ◌∙◌, inl, inr, ⊎_elim, arith}
use Rattle.std.specs.Option.{option_map}
use Rattle.std.proofs.lemmas.Bool.{cases_lt}
use Rattle.dtype.specs.declared.ptype.DType.{DType}
use Rattle.dtype.specs.declared.ptype.Family.{Family}
use Rattle.dtype.specs.declared.ptype.Family.TheVariants as family
use Rattle.dtype.specs.declared.ptype.PType.TheVariants as p
use Rattle.dtype.specs.declared.scalar.Scalar.{Scalar}
use Rattle.dtype.specs.declared.value.Value.TheVariants as v
use Rattle.dtype.specs.Types.{family_of}
use Rattle.sums.specs.declared.state.SumState.{SumState}
use Rattle.sums.specs.declared.state.SumState.TheVariants.{Unsigned, Signed, Float as Floating}
use Rattle.sums.specs.Sums.{unsigned64, checked}
use Rattle.sums.specs.States.{held}
use Rattle.sums.proofs.Products.{checked_over, checked_within}
use Rattle.aggregates.specs.declared.sum_partial.NumericalAggregateOpts.{NumericalAggregateOpts}
use Rattle.aggregates.specs.declared.sum_partial.SumPartial.{SumPartial}
use Rattle.aggregates.specs.declared.count.CountPartial.{CountPartial}
use Rattle.aggregates.specs.Sheets.{Sheet}
use Rattle.aggregates.specs.CountModel.{count_model, scalar_of_count, exact_count}
use Rattle.aggregates.specs.SumModel.{sum_model, scalar_of, exactly, SignedAllowed, OfFamily, Allowed}
use Rattle.aggregates.specs.Totals.{total, count_total, holds_null}
use Rattle.readings.specs.Totals.{nullable_of, NullOrPast, ReadsExactly, ReadsSigned, ReadsFloat, SumReads, CountReads}

-- ---- unsigned sums and counts

-- the checked total of a sheet, where a scalar stands for each of its values
module _ (x : Option ℕ → Scalar) (typed : (q : Option ℕ) → (x q).dtype ≡ nullable_of p.U64) (nothing : (x None).value ≡ None) (number : (k : ℕ) → (x (Some k)).value ≡ Some (v.U64 k)) where
  exact_read : (n : ℕ) (s : Sheet Scalar) (q : Option ℕ) → q ≡ cond (holds_null s) None (checked unsigned64 n) → ReadsExactly n s (x q)
  exact_read n s q e = by (holds_null s) refl (cases_lt n (2 ^ 64))
    where
      null : NullOrPast s n → q ≡ None → ReadsExactly n s (x q)
      null h r = record { dtype = typed q; null_only = λ z. h; null_always = λ z. cc; number = λ no'. absurd (no' h) }

      by : (b : Bool) → holds_null s ≡ b → (n < 2 ^ 64) ⊎ (2 ^ 64 ≤ n) → ReadsExactly n s (x q)
      by true h past = null (inl h) (rw h at e)
      by false h (inl low) =
          let is : (x q).value ≡ Some (v.U64 n) = rw ((rw h at e) ∙ sym (checked_within n low)) (number n) in
          record { dtype = typed q; null_only = λ z. absurd cc; null_always = λ z. absurd (⊎_elim (λ y. cc) (λ past. omega arith) z); number = λ z. is }
      by false h (inr past) = null (inr past) ((rw h at e) ∙ sym (checked_over n past))

exactly_mapped : (b : Bool) (q : Option ℕ) → cond b None (option_map Unsigned q) ≡ option_map Unsigned (cond b None q)
exactly_mapped true q = refl
exactly_mapped false q = refl

unsigned_type : (d : DType) → family_of d.ptype ≡ family.Unsigned → (q : Option ℕ) → (scalar_of d (option_map Unsigned q)).dtype ≡ nullable_of p.U64
unsigned_type d e None = cc
unsigned_type d e (Some k) = refl

unsigned_reads : (d : DType) (s : Sheet Scalar) (q : Option SumState) → family_of d.ptype ≡ family.Unsigned → q ≡ exactly s → ReadsExactly (total s) s (scalar_of d q)
unsigned_reads d s q e h =
    rw (h ∙ exactly_mapped (holds_null s) (checked unsigned64 (total s)))
    (exact_read (λ y. scalar_of d (option_map Unsigned y)) (unsigned_type d e) refl (λ k. refl) (total s) s (cond (holds_null s) None (checked unsigned64 (total s))) refl)

count_type : (q : Option ℕ) → (scalar_of_count q).dtype ≡ nullable_of p.U64
count_type None = refl
count_type (Some n) = refl

pub count_reads : (s : Sheet Scalar) (q : Option ℕ) → q ≡ exact_count s → CountReads s (scalar_of_count q)
count_reads s q h = exact_read scalar_of_count count_type refl (λ k. refl) (count_total s) s q h

-- ---- signed sums and floats

signed_reads : (d : DType) (s : Sheet Scalar) (q : Option SumState) → family_of d.ptype ≡ family.Signed → SignedAllowed s q → ReadsSigned s (scalar_of d q)
signed_reads d s None e h = record { dtype = cc; either = inl refl; number = λ z w. absurd cc; null_only = λ w. h }
signed_reads d s (Some (Unsigned a)) e h = absurd h
signed_reads d s (Some (Signed a)) e h = record { dtype = refl; either = inr (a, refl); number = λ z w. (h.0, cc); null_only = λ w. absurd cc }
signed_reads d s (Some (Floating a)) e h = absurd h

float_reads : (d : DType) (q : Option SumState) → family_of d.ptype ≡ family.Float → OfFamily family.Float q → ReadsFloat (scalar_of d q)
float_reads d None e h = record { dtype = cc; either = inl refl }
float_reads d (Some (Unsigned a)) e h = absurd h
float_reads d (Some (Signed a)) e h = absurd h
float_reads d (Some (Floating a)) e h = record { dtype = refl; either = inr (held a, refl) }

sum_reads_at : (d : DType) (s : Sheet Scalar) (q : Option SumState) (g : Family) → family_of d.ptype ≡ g → Allowed g s q → SumReads g s (scalar_of d q)
sum_reads_at d s q family.Unsigned e h = unsigned_reads d s q e h
sum_reads_at d s q family.Signed e h = signed_reads d s q e h
sum_reads_at d s q family.Float e h = float_reads d q e h

pub sum_reads : (d : DType) (s : Sheet Scalar) (q : Option SumState) → Allowed (family_of d.ptype) s q → SumReads (family_of d.ptype) s (scalar_of d q)
sum_reads d s q h = sum_reads_at d s q (family_of d.ptype) refl h

-- ---- the laws of plain totals

pub sum_totals : (o : NumericalAggregateOpts) (d : DType) (s : Sheet Scalar) (x : SumPartial) → sum_model.allowed o d s x → SumReads (family_of d.ptype) s (sum_model.final o d x)
sum_totals o d s x h = sum_reads d s x.current h

pub count_totals : (o : Unit {0}) (d : DType) (s : Sheet Scalar) (x : CountPartial) → count_model.allowed o d s x → CountReads s (count_model.final o d x)
count_totals o d s x h = count_reads s x.current h
