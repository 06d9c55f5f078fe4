-- A list taken apart at one of its numbers, or before its last. Assumes nothing.
use Rattle.std.proofs.Common.{◌≡◌, ℕ, suc, ◌≤◌, true, eqb, List, [], ◌∷◌, ◌++◌, length, get_or, take, sym, refl, ap, ⊎_elim, arith}
use Rattle.std.proofs.lemmas.Bool.{or_cases, or_left, or_right, eqb-true, eq-eqb}
use Rattle.counting.specs.Lists.{has}

pub record Split (q : ℕ) (xs : List ℕ) : Type 0 where
  pub front : List ℕ
  pub rest : List ℕ
  pub whole : xs ≡ front ++ q ∷ rest

pub split_at : (q : ℕ) (xs : List ℕ) → has q xs ≡ true → Split q xs
split_at q [] in_it = let z : ◌≡◌ {A = ℕ} 0 1 = cc in absurd (omega arith)
split_at q (x ∷ xs) in_it =
    ⊎_elim
    (λ here. record { front = []; rest = xs; whole = ap (λ y. y ∷ xs) (sym (eqb-true q x here)) })
    (λ later. let s = split_at q xs later in record { front = x ∷ s.front; rest = s.rest; whole = ap (λ l. x ∷ l) s.whole })
    (or_cases (eqb q x) (has q xs) in_it)

pub length_push : (xs : List ℕ) (x : ℕ) → length (xs ++ x ∷ []) ≡ suc (length xs)
length_push [] x = refl
length_push (y ∷ ys) x = ap suc (length_push ys x)

-- the front of a list up to one of its numbers
pub take_to : (front : List ℕ) (q : ℕ) (rest : List ℕ) → take (suc (length front)) (front ++ q ∷ rest) ≡ front ++ q ∷ []
take_to [] q rest = refl
take_to (x ∷ xs) q rest = ap (λ l. x ∷ l) (take_to xs q rest)

pub length_front : (front : List ℕ) (q : ℕ) (rest : List ℕ) → suc (length front) ≤ length (front ++ q ∷ rest)
length_front [] q rest = omega arith
length_front (x ∷ xs) q rest = let less = length_front xs q rest in omega arith

pub has_middle : (front : List ℕ) (q : ℕ) (rest : List ℕ) → has q (front ++ q ∷ rest) ≡ true
has_middle [] q rest = or_left _ _ (eq-eqb q q refl)
has_middle (x ∷ xs) q rest = or_right _ _ (has_middle xs q rest)

-- two lists that end with one number each
tail_of : List ℕ → List ℕ
tail_of [] = []
tail_of (x ∷ xs) = xs

same_head : (x y : ℕ) (xs ys : List ℕ) → x ∷ xs ≡ y ∷ ys → x ≡ y
same_head x y xs ys e = ap (λ l. get_or l 0 0) e

same_tail : (x y : ℕ) (xs ys : List ℕ) → x ∷ xs ≡ y ∷ ys → xs ≡ ys
unfolding tail_of
same_tail x y xs ys e = ap tail_of e

pub last_same : (xs ys : List ℕ) (x y : ℕ) → xs ++ x ∷ [] ≡ ys ++ y ∷ [] → (xs ≡ ys) × (x ≡ y)
last_same [] [] x y e = (refl, same_head x y [] [] e)
last_same [] (b ∷ ys) x y e = let l = ap length e in let long = length_push ys y in absurd (omega arith)
last_same (a ∷ xs) [] x y e = let l = ap length e in let long = length_push xs x in absurd (omega arith)
last_same (a ∷ xs) (b ∷ ys) x y e =
    let head = same_head a b (xs ++ x ∷ []) (ys ++ y ∷ []) e in
    let rest = last_same xs ys x y (same_tail a b (xs ++ x ∷ []) (ys ++ y ∷ []) e) in
    ((λ i. head i ∷ rest.0 i), rest.1)
