-- One number more at the end of a list, and numbers below n. Assumes nothing.
use Rattle.std.proofs.Common.{◌≡◌, ℕ, zero, suc, ◌<◌, ◌≤◌, Bool, true, false, not, ◌||◌, eqb, ltb, List, [], ◌∷◌, ◌++◌, length, get_or, sym, refl, ap, ◌∙◌, arith}
use Rattle.std.proofs.lemmas.Bool.{and_parts, and_from, or_parts, or_from, eqb-false, ne_eqb, lt-ltb, ltb-true, not-true, not_from_false}
use Rattle.counting.specs.Lists.{has, distinct, below}

pub has_push : (xs : List ℕ) (x p : ℕ) → has p xs ≡ false → (p ≡ x → ⊥) → has p (xs ++ x ∷ []) ≡ false
has_push [] x p none other = or_from _ _ (ne_eqb p x other) refl
has_push (y ∷ ys) x p none other =
    let h = or_parts (eqb p y) (has p ys) none in
    or_from _ _ h.0 (has_push ys x p h.1 other)

pub distinct_push : (xs : List ℕ) (x : ℕ) → distinct xs ≡ true → has x xs ≡ false → distinct (xs ++ x ∷ []) ≡ true
distinct_push [] x apart new = refl
distinct_push (y ∷ ys) x apart new =
    let a = and_parts (not (has y ys)) (distinct ys) apart in
    let h = or_parts (eqb x y) (has x ys) new in
    and_from _ _ (not_from_false _ (has_push ys x y (not-true _ a.0) (λ e. eqb-false x y h.0 (sym e)))) (distinct_push ys x a.1 h.1)

pub below_push : (n : ℕ) (xs : List ℕ) (x : ℕ) → below n xs ≡ true → x < n → below n (xs ++ x ∷ []) ≡ true
below_push n [] x low here = and_from _ _ (lt-ltb x n here) refl
below_push n (y ∷ ys) x low here =
    let b = and_parts (ltb y n) (below n ys) low in
    and_from _ _ b.0 (below_push n ys x b.1 here)

-- a number that is not below n is not in a list of numbers below n
pub not_has : (n : ℕ) (xs : List ℕ) (p : ℕ) → below n xs ≡ true → n ≤ p → has p xs ≡ false
not_has n [] p low high = refl
not_has n (x ∷ xs) p low high =
    let b = and_parts (ltb x n) (below n xs) low in
    let here = ltb-true x n b.0 in
    or_from _ _ (ne_eqb p x (λ e. absurd (omega arith))) (not_has n xs p b.1 high)

-- what stands in a list with one number more
or_turn : (a b c : Bool) → (a || (b || c)) ≡ (b || (a || c))
or_turn true true c = refl
or_turn true false c = refl
or_turn false b c = refl

pub has_push_is : (xs : List ℕ) (x p : ℕ) → has p (xs ++ x ∷ []) ≡ (eqb p x || has p xs)
has_push_is [] x p = refl
has_push_is (y ∷ ys) x p = ap (λ b. eqb p y || b) (has_push_is ys x p) ∙ or_turn (eqb p y) (eqb p x) (has p ys)

-- a number at an index of a list of numbers below n
pub below_at : (n : ℕ) (xs : List ℕ) (i : ℕ) → below n xs ≡ true → i < length xs → get_or xs i 0 < n
below_at n [] i low on = absurd (omega arith)
below_at n (x ∷ xs) zero low on = ltb-true x n (and_parts (ltb x n) (below n xs) low).0
below_at n (x ∷ xs) (suc i) low on = below_at n xs i (and_parts (ltb x n) (below n xs) low).1 (omega arith)

-- numbers below n are below every number from n on
pub below_wider : (n k : ℕ) (xs : List ℕ) → n ≤ k → below n xs ≡ true → below k xs ≡ true
below_wider n k [] le low = refl
below_wider n k (x ∷ xs) le low =
    let b = and_parts (ltb x n) (below n xs) low in
    let here = ltb-true x n b.0 in
    and_from _ _ (lt-ltb x k (omega arith)) (below_wider n k xs le b.1)
