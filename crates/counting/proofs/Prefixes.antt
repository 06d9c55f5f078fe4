-- The front of a list, and its rest. Assumes nothing.
use Rattle.std.proofs.Common.{◌≡◌, ℕ, zero, suc, true, false, not, eqb, ltb, List, [], ◌∷◌, take, drop, refl}
use Rattle.std.proofs.lemmas.Bool.{and_parts, and_from, or_parts, or_from, not-true, not_from_false}
use Rattle.counting.specs.Lists.{has, distinct, below}

pub has-take : (k : ℕ) (xs : List ℕ) (p : ℕ) → has p xs ≡ false → has p (take k xs) ≡ false
has-take zero [] p none = refl
has-take zero (x ∷ xs) p none = refl
has-take (suc k) [] p none = refl
has-take (suc k) (x ∷ xs) p none =
    let h = or_parts (eqb p x) (has p xs) none in
    or_from _ _ h.0 (has-take k xs p h.1)

pub distinct-take : (k : ℕ) (xs : List ℕ) → distinct xs ≡ true → distinct (take k xs) ≡ true
distinct-take zero [] apart = refl
distinct-take zero (x ∷ xs) apart = refl
distinct-take (suc k) [] apart = refl
distinct-take (suc k) (x ∷ xs) apart =
    let a = and_parts (not (has x xs)) (distinct xs) apart in
    and_from _ _ (not_from_false _ (has-take k xs x (not-true _ a.0))) (distinct-take k xs a.1)

pub below-take : (n k : ℕ) (xs : List ℕ) → below n xs ≡ true → below n (take k xs) ≡ true
below-take n zero [] low = refl
below-take n zero (x ∷ xs) low = refl
below-take n (suc k) [] low = refl
below-take n (suc k) (x ∷ xs) low =
    let b = and_parts (ltb x n) (below n xs) low in
    and_from _ _ b.0 (below-take n k xs b.1)

pub below-drop : (n k : ℕ) (xs : List ℕ) → below n xs ≡ true → below n (drop k xs) ≡ true
below-drop n zero xs low = low
below-drop n (suc k) [] low = refl
below-drop n (suc k) (x ∷ xs) low = below-drop n k xs (and_parts (ltb x n) (below n xs) low).1
