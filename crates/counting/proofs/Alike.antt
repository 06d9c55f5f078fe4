-- Lists that are the same by a test. Assumes nothing.
use Rattle.std.proofs.Common.{◌≡◌, ℕ, true, eqb, List, [], ◌∷◌, refl}
use Rattle.std.proofs.lemmas.Bool.{and_parts, and_from, eqb-true, eq-eqb, false≢true}
use Rattle.counting.specs.Lists.{alike}

pub alike_same : (xs ys : List ℕ) → alike xs ys ≡ true → xs ≡ ys
alike_same [] [] on = refl
alike_same [] (y ∷ ys) on = absurd (false≢true on)
alike_same (x ∷ xs) [] on = absurd (false≢true on)
alike_same (x ∷ xs) (y ∷ ys) on =
    let parts = and_parts (eqb x y) (alike xs ys) on in
    let first = eqb-true x y parts.0 in
    let rest = alike_same xs ys parts.1 in
    cc

pub alike_self : (xs : List ℕ) → alike xs xs ≡ true
alike_self [] = refl
alike_self (x ∷ xs) = and_from _ _ (eq-eqb x x refl) (alike_self xs)
