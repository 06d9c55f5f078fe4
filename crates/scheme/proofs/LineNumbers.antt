-- The line of a place among lines with different places. Assumes nothing.
use Rattle.std.proofs.Common.{◌≡◌, ℕ, zero, suc, ◌+◌, ◌-◌, ◌<◌, ◌≤◌, true, false, eqb, ltb, List, [], ◌∷◌, ◌++◌, length, get_or, add-one, MatchOption, Option, position, sym, refl, ⊎_elim, arith}
use Rattle.std.specs.List.{position_from}
use Rattle.std.proofs.lemmas.Iterator.Adapters.{position_from-zero}
use Rattle.std.proofs.lemmas.Bool.{cases_eq, eq-eqb, ne_eqb}
use Rattle.counting.specs.Lists.{has, distinct}
use Rattle.counting.proofs.Tallies.{has_at}
use Rattle.scheme.specs.BookLawful.{line_none}
use Rattle.scheme.specs.Lines.{line_of}

line_some : (k : ℕ) (xs : List ℕ) (p : ℕ) → 1 ≤ k → has p xs ≡ true → 1 ≤ line_of k xs p
line_some k [] p low is = grind arith
line_some k (x ∷ xs) p low is = grind (arith, line_some (suc k) xs p)

-- a place is signed exactly if a line has it
pub line_has : (xs : List ℕ) (p : ℕ) → ltb 0 (line_of 1 xs p) ≡ has p xs
line_has xs p = grind (arith, line_some 1 xs p, line_none 1 xs p)

-- the line at an index has the number after it
pub line_at : (k : ℕ) (xs : List ℕ) (i : ℕ) → distinct xs ≡ true → i < length xs → line_of k xs (get_or xs i 0) ≡ k + i
line_at k [] i apart on = grind arith
line_at k (x ∷ xs) zero apart on = grind arith
line_at k (x ∷ xs) (suc i) apart on = grind (arith, has_at xs i, line_at (suc k) xs i)

-- and what has a line's number stands there
pub record Stands (k : ℕ) (xs : List ℕ) (p m : ℕ) : Type 0 where
  pub from : k ≤ m
  pub to : m < k + length xs
  pub there : get_or xs (m - k) 0 ≡ p

pub line_stands : (k : ℕ) (xs : List ℕ) (p m : ℕ) → line_of k xs p ≡ m → 1 ≤ m → Stands k xs p m
line_stands k [] p m is some = absurd (omega arith)
line_stands k (x ∷ xs) p m is some = grind (arith, line_stands (suc k) xs p m)

-- one line more
pub line_push_new : (k : ℕ) (xs : List ℕ) (p : ℕ) → has p xs ≡ false → line_of k (xs ++ p ∷ []) p ≡ k + length xs
line_push_new k [] p new = grind arith
line_push_new k (x ∷ xs) p new = grind (arith, line_push_new (suc k) xs p)

pub line_push_other : (k : ℕ) (xs : List ℕ) (x p : ℕ) → (p ≡ x → ⊥) → line_of k (xs ++ x ∷ []) p ≡ line_of k xs p
line_push_other k [] x p other = grind arith
line_push_other k (y ∷ ys) x p other = grind (arith, line_push_other (suc k) ys x p)

-- the number of a line is one more than its index
numbers : (k : ℕ) (xs : List ℕ) (p : ℕ) → MatchOption (position_from (λ x. eqb x p) k xs) (line_of (suc k) xs p ≡ 0) (λ i. line_of (suc k) xs p ≡ i + 1)
numbers k [] p = refl
numbers k (x ∷ xs) p =
    ⊎_elim
    (λ here. rw (eq-eqb x p here, eq-eqb p x (sym here)) (omega arith))
    (λ other. rw (ne_eqb x p other, ne_eqb p x (λ e. other (sym e)), add-one k) (numbers (suc k) xs p))
    (cases_eq x p)

pub line_number : (xs : List ℕ) (p : ℕ) (o : Option ℕ) → o ≡ position (λ x. eqb x p) xs → MatchOption o (line_of 1 xs p ≡ 0) (λ i. line_of 1 xs p ≡ i + 1)
line_number xs p o is = rw (is, position_from-zero) (numbers 0 xs p)
