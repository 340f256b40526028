-- A checked signed sum against the exact total. Assumes nothing.
use Rattle.std.proofs.Common.{◌≡◌, ℕ, zero, suc, ◌+◌, ◌^◌, ◌<◌, ◌≤◌, Bool, true, false, ◌⊎◌, List, [], ◌∷◌, ◌++◌, length, take, drop, ℤ, pos, negsuc, ◌+ℤ◌, neg_ℤ, ◌≤ℤ◌, Some, None, fold, sum_by, Option, refl, ap, ◌∙◌, subst, inl, inr, arith, length-drop, take-append-drop, ltb-false, MatchOption}
use Rattle.std.proofs.lemmas.List.Sums.{sum_by-cons, sum_by-append}
use Rattle.std.proofs.lemmas.Int.{ints}
use Rattle.sums.specs.Sums.{signed64, checked, step, exact_total, checked_sum, chunked, cut, above, below, SignedTotal}
use Rattle.std.proofs.lemmas.Bool.{cond_both}

-- the start of an exact total moves out
total_from : {X : Type 0} (f : X → ℤ) (a b : ℤ) (xs : List X) → fold (λ s x. s +ℤ f x) (a +ℤ b) xs ≡ a +ℤ fold (λ s x. s +ℤ f x) b xs
total_from f a b [] = refl
total_from f a b (x ∷ xs) =
    let assoc : (a +ℤ b) +ℤ f x ≡ a +ℤ (b +ℤ f x) = omega (arith, ints) in
    ap (λ z. fold (λ s y. s +ℤ f y) z xs) assoc ∙ total_from f a (b +ℤ f x) xs

pub total_cons : {X : Type 0} (f : X → ℤ) (x : X) (xs : List X) → exact_total signed64 f (x ∷ xs) ≡ f x +ℤ exact_total signed64 f xs
total_cons f x xs =
    let swap : pos 0 +ℤ f x ≡ f x +ℤ pos 0 = omega (arith, ints) in
    ap (λ z. fold (λ s y. s +ℤ f y) z xs) swap ∙ total_from f (f x) (pos 0) xs

pub total-++ : {X : Type 0} (f : X → ℤ) (xs ys : List X) → exact_total signed64 f (xs ++ ys) ≡ exact_total signed64 f xs +ℤ exact_total signed64 f ys
total-++ f [] ys = omega (arith, ints)
total-++ f (x ∷ xs) ys =
    let a = total_cons f x (xs ++ ys) in
    let b = total-++ f xs ys in
    let c = total_cons f x xs in
    omega (arith, ints)

-- ---- an exact total lies between its negatives and its positives
abbrev pub positives : {X : Type 0} → (X → ℤ) → List X → ℕ
positives f xs = sum_by (λ x. above (f x)) xs

abbrev pub negatives : {X : Type 0} → (X → ℤ) → List X → ℕ
negatives f xs = sum_by (λ x. below (f x)) xs

pub above_hi : (z : ℤ) → z ≤ℤ pos (above z)
above_hi (pos n) = omega (arith, ints)
above_hi (negsuc n) = omega (arith, ints)

pub below_lo : (z : ℤ) → neg_ℤ (pos (below z)) ≤ℤ z
below_lo (pos n) = omega (arith, ints)
below_lo (negsuc n) = omega (arith, ints)

pub total_hi : {X : Type 0} (f : X → ℤ) (xs : List X) → exact_total signed64 f xs ≤ℤ pos (positives f xs)
total_hi f [] = omega (arith, ints)
total_hi f (x ∷ xs) = omega (arith, ints, total_cons f x xs, total_hi f xs, above_hi (f x), sum_by-cons (λ y. above (f y)) x xs)

pub total_lo : {X : Type 0} (f : X → ℤ) (xs : List X) → neg_ℤ (pos (negatives f xs)) ≤ℤ exact_total signed64 f xs
total_lo f [] = omega (arith, ints)
total_lo f (x ∷ xs) = omega (arith, ints, total_cons f x xs, total_lo f xs, below_lo (f x), sum_by-cons (λ y. below (f y)) x xs)

-- ---- a running sum against the exact total z, where the positives are A and the negatives B
abbrev pub Passed : ℕ → ℕ → Type 0
Passed A B = (2 ^ 63 ≤ A) ⊎ (2 ^ 63 < B)

-- none only where a limit was passed, and else the total, which fits
abbrev pub Out : ℕ → ℕ → ℤ → Option ℤ → Type 0
Out A B z o = MatchOption o (Passed A B) (λ t. (t ≡ z) × (signed64.fits t ≡ true))

pub record In (A B : ℕ) (z : ℤ) (o : Option ℤ) : Type 0 where
  pub hi : z ≤ℤ pos A
  pub lo : neg_ℤ (pos B) ≤ℤ z
  pub out : Out A B z o

pub move_in : (A A' B B' : ℕ) (z z' : ℤ) (o : Option ℤ) → A ≡ A' → B ≡ B' → z ≡ z' → In A B z o → In A' B' z' o
move_in A A' B B' z z' o a b e h = subst (λ (n : ℕ). In n B' z' o) a (subst (λ (n : ℕ). In A n z' o) b (subst (λ (y : ℤ). In A B y o) e h))

pub passed_more : (A A' B B' : ℕ) → A ≤ A' → B ≤ B' → Passed A B → Passed A' B'
passed_more A A' B B' a b (inl h) = inl (omega arith)
passed_more A A' B B' a b (inr h) = inr (omega arith)

pub far_passed : (z : ℤ) (A B : ℕ) → z ≤ℤ pos A → neg_ℤ (pos B) ≤ℤ z → signed64.fits z ≡ false → Passed A B
far_passed (pos n) A B p q e = let h = ltb-false n (2 ^ 63) e in inl (omega (arith, ints))
far_passed (negsuc n) A B p q e = let h = ltb-false n (2 ^ 63) e in inr (omega (arith, ints))

-- a number by itself, checked
pub checked_out : (A B : ℕ) (z : ℤ) → z ≤ℤ pos A → neg_ℤ (pos B) ≤ℤ z → Out A B z (checked signed64 z)
checked_out A B z p q = cond_both (signed64.fits z) (Some z) None (Out A B z) (λ e. (refl, e)) (far_passed z A B p q)

step_out : (A B u d : ℕ) (z g : ℤ) (o : Option ℤ) → (z +ℤ g) ≤ℤ pos (A + u) → neg_ℤ (pos (B + d)) ≤ℤ (z +ℤ g) → Out A B z o → Out (A + u) (B + d) (z +ℤ g) (step signed64 o g)
step_out A B u d z g None p q h = passed_more A (A + u) B (B + d) (omega arith) (omega arith) h
step_out A B u d z g (Some t) p q h = rw h.0 (checked_out (A + u) (B + d) (z +ℤ g) p q)

-- one checked addition of g, which lies between -d and u
pub step_in : (A B u d : ℕ) (z g : ℤ) (o : Option ℤ) → g ≤ℤ pos u → neg_ℤ (pos d) ≤ℤ g → In A B z o → In (A + u) (B + d) (z +ℤ g) (step signed64 o g)
step_in A B u d z g o p q h =
    let top : (z +ℤ g) ≤ℤ pos (A + u) = omega (arith, ints, h.hi) in
    let bottom : neg_ℤ (pos (B + d)) ≤ℤ (z +ℤ g) = omega (arith, ints, h.lo) in
    record { hi = top; lo = bottom; out = step_out A B u d z g o top bottom h.out }

-- steps g, each between -d and u
steps_in : {Y : Type 0} (g : Y → ℤ) (u d : Y → ℕ) → ((y : Y) → g y ≤ℤ pos (u y)) → ((y : Y) → neg_ℤ (pos (d y)) ≤ℤ g y) → (A B : ℕ) (z : ℤ) (o : Option ℤ) (ys : List Y)
    → In A B z o → In (A + sum_by u ys) (B + sum_by d ys) (z +ℤ exact_total signed64 g ys) (fold (λ s y. step signed64 s (g y)) o ys)
steps_in g u d hi lo A B z o [] h = move_in A (A + 0) B (B + 0) z (z +ℤ pos 0) o (omega arith) (omega arith) (omega (arith, ints)) h
steps_in g u d hi lo A B z o (y ∷ ys) h =
    move_in (A + u y + sum_by u ys) (A + sum_by u (y ∷ ys)) (B + d y + sum_by d ys) (B + sum_by d (y ∷ ys)) ((z +ℤ g y) +ℤ exact_total signed64 g ys) (z +ℤ exact_total signed64 g (y ∷ ys)) _
    (omega (arith, sum_by-cons u y ys)) (omega (arith, sum_by-cons d y ys)) (omega (arith, ints, total_cons g y ys))
    (steps_in g u d hi lo (A + u y) (B + d y) (z +ℤ g y) (step signed64 o (g y)) ys (step_in A B (u y) (d y) z (g y) o (hi y) (lo y) h))

pub cut_sum : {X : Type 0} (h : X → ℕ) (k fuel : ℕ) (xs : List X) → 0 < k → length xs ≤ fuel → sum_by (sum_by h) (cut k fuel xs) ≡ sum_by h xs
cut_sum h k zero [] p l = refl
cut_sum h k (suc fuel) [] p l = refl
cut_sum h k zero (x ∷ xs) p l = absurd (omega arith)
cut_sum h k (suc fuel) (x ∷ xs) p l =
    let ys = x ∷ xs in
    let less = length-drop k ys in
    let rest = cut_sum h k fuel (drop k ys) p (omega arith) in
    let first = sum_by-cons (sum_by h) (take k ys) (cut k fuel (drop k ys)) in
    let split = sum_by-append h (take k ys) (drop k ys) in
    let whole = ap (sum_by h) (take-append-drop k ys) in
    omega arith

cut_total : {X : Type 0} (f : X → ℤ) (k fuel : ℕ) (xs : List X) → 0 < k → length xs ≤ fuel → exact_total signed64 (exact_total signed64 f) (cut k fuel xs) ≡ exact_total signed64 f xs
cut_total f k zero [] p l = refl
cut_total f k (suc fuel) [] p l = refl
cut_total f k zero (x ∷ xs) p l = absurd (omega arith)
cut_total f k (suc fuel) (x ∷ xs) p l =
    let ys = x ∷ xs in
    let less = length-drop k ys in
    let rest = cut_total f k fuel (drop k ys) p (omega arith) in
    let first = total_cons (exact_total signed64 f) (take k ys) (cut k fuel (drop k ys)) in
    let split = total-++ f (take k ys) (drop k ys) in
    let whole = take-append-drop k ys in
    cc

-- the values of a list added, one by one or by chunks
pub sum_in : {X : Type 0} (small : Bool) (f : X → ℤ) (A B : ℕ) (z a : ℤ) (xs : List X) → In A B z (Some a) → In (A + positives f xs) (B + negatives f xs) (z +ℤ exact_total signed64 f xs) (checked_sum signed64 small f a xs)
sum_in false f A B z a xs h = steps_in f (λ x. above (f x)) (λ x. below (f x)) (λ x. above_hi (f x)) (λ x. below_lo (f x)) A B z (Some a) xs h
sum_in true f A B z a xs h =
    let n = length xs in
    move_in _ (A + positives f xs) _ (B + negatives f xs) _ (z +ℤ exact_total signed64 f xs) (checked_sum signed64 true f a xs)
    (ap (λ m. A + m) (cut_sum (λ x. above (f x)) 65536 n xs (omega arith) (omega arith)))
    (ap (λ m. B + m) (cut_sum (λ x. below (f x)) 65536 n xs (omega arith) (omega arith)))
    (ap (λ y. z +ℤ y) (cut_total f 65536 n xs (omega arith) (omega arith)))
    (steps_in (exact_total signed64 f) (positives f) (negatives f) (total_hi f) (total_lo f) A B z (Some a) (chunked 65536 xs) h)

pub out_total : (A B : ℕ) (z : ℤ) (o : Option ℤ) → Out A B z o → MatchOption o (Passed A B) (λ t. t ≡ z)
out_total A B z None h = h
out_total A B z (Some t) h = h.0

pub within : (a : ℤ) → signed64.fits a ≡ true → In (above a) (below a) a (Some a)
within a h = record { hi = above_hi a; lo = below_lo a; out = (refl, h) }

-- what the contract says of the answer
pub signed_total_of : {X : Type 0} (n : Bool) (f : X → ℤ) (acc : ℤ) (xs : List X) (r : Option ℤ) → signed64.fits acc ≡ true → r ≡ checked_sum signed64 n f acc xs → SignedTotal f acc xs r
signed_total_of n f acc xs r h e = rw e (out_total _ _ _ _ (sum_in n f (above acc) (below acc) acc acc xs (within acc h)).out)

-- what one checked addition answered, at equal numbers
pub step_answers : (a x y t u : ℤ) → x ≡ y → u ≡ t → Some t ≡ step signed64 (Some a) x → step signed64 (Some a) y ≡ Some u
step_answers a x y t u xy ut h = cc

pub step_refuses : (a x y : ℤ) → x ≡ y → None ≡ step signed64 (Some a) x → step signed64 (Some a) y ≡ None
step_refuses a x y xy h = cc
