use Rattle.std.proofs.Common.{◌≡◌, ◌≢◌, ℕ, Bool, true, false, if◌then◌else◌, List, [], ◌∷◌, ◌++◌, None, Some, Option, MatchOption, Bor, unwrap_or, ◌∙◌, sym, lit<, arith, rules}
use Rattle.std.proofs.lemmas.List.{append-nil, append_cancel_right, same_from_push}
use Rattle.std.proofs.lemmas.Result.{err_from_is_err_and}
use Rattle.std.proofs.lemmas.Str.Pattern.{strip_suffix_char}
use Rattle.dtype.specs.declared.ptype.PType.{PType}
use Rattle.dtype.specs.declared.ptype.PType.TheVariants as p
use Rattle.dtype.specs.Names.{name_of}
use Rattle.dtype.proofs.names.DTypeFromStr.from_str.Goals as goal

ends_otherwise : (xs front : List ℕ) {y : ℕ} → y ≢ 63 → xs ++ (y ∷ []) ≡ front ++ (63 ∷ []) → ⊥
ends_otherwise xs front {y} n h = n (same_from_push xs front y 63 h).1

-- no number type's name ends in a ?
unmarked : (t : PType) (front : List ℕ) → name_of t ≢ front ++ (63 ∷ [])
unmarked p.U8 front h = ends_otherwise (117 ∷ []) front (λ e. absurd (omega arith)) h
unmarked p.U16 front h = ends_otherwise (117 ∷ 49 ∷ []) front (λ e. absurd (omega arith)) h
unmarked p.U32 front h = ends_otherwise (117 ∷ 51 ∷ []) front (λ e. absurd (omega arith)) h
unmarked p.U64 front h = ends_otherwise (117 ∷ 54 ∷ []) front (λ e. absurd (omega arith)) h
unmarked p.I8 front h = ends_otherwise (105 ∷ []) front (λ e. absurd (omega arith)) h
unmarked p.I16 front h = ends_otherwise (105 ∷ 49 ∷ []) front (λ e. absurd (omega arith)) h
unmarked p.I32 front h = ends_otherwise (105 ∷ 51 ∷ []) front (λ e. absurd (omega arith)) h
unmarked p.I64 front h = ends_otherwise (105 ∷ 54 ∷ []) front (λ e. absurd (omega arith)) h
unmarked p.F32 front h = ends_otherwise (102 ∷ 51 ∷ []) front (λ e. absurd (omega arith)) h
unmarked p.F64 front h = ends_otherwise (102 ∷ 54 ∷ []) front (λ e. absurd (omega arith)) h

-- a text whose part before a ? at its end, or the whole of it, names no number type is no dtype's name
unnamed : (text : Bor (List ℕ)) (r : Option (Bor (List ℕ))) → MatchOption r ((front : List ℕ) → text.now ≢ front ++ (63 ∷ [])) (λ x. text.now ≡ x.now ++ (63 ∷ [])) → ((t : PType) → (unwrap_or r text).now ≡ name_of t → ⊥)
    → (t : PType) (b : Bool) → text.now ≡ name_of t ++ (if b then 63 ∷ [] else []) → ⊥
unnamed text None e n t true h = e (name_of t) h
unnamed text None e n t false h = n t (h ∙ append-nil (name_of t))
unnamed text (Some x) e n t true h = n t (append_cancel_right x.now (name_of t) (63 ∷ []) (sym e ∙ h))
unnamed text (Some x) e n t false h = unmarked t x.now (sym (append-nil (name_of t)) ∙ sym h ∙ e)

pub returns-in_err-parse : goal.returns-in_err-parse
returns-in_err-parse c =
    let p = err_from_is_err_and c.from_residual.result c.from_residual.ensures.1 in
    let bare = c.strip_suffix-bare in
    let named : (t : PType) → (unwrap_or bare.result c.args.text).now ≡ name_of t → ⊥ = search rules in
    rw p.1 (λ d h. unnamed c.args.text bare.result (strip_suffix_char 63 c.args.text.now bare.result bare.ensures.cases (lit< tt)) named d.ptype d.nullable h)
