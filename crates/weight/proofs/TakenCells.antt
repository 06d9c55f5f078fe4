-- What is taken in a part of the cells. Assumes nothing.
use Rattle.std.proofs.Common.{◌≡◌, ℕ, zero, suc, ◌+◌, ◌-◌, ◌<◌, ◌≤◌, min, false, List, [], ◌∷◌, length, take, drop, sym, refl, ap, ◌∙◌, ⊎_elim, arith, length-take}
use Rattle.std.proofs.lemmas.Bool.{cases_lt}
use Rattle.weight.specs.declared.cells.Cell.{Cell}
use Rattle.weight.specs.Cells.{taken_at}

pub taken_past : (cells : List Cell) (i : ℕ) → length cells ≤ i → taken_at cells i ≡ false
taken_past [] i past = refl
taken_past (c ∷ cs) zero past = absurd (omega arith)
taken_past (c ∷ cs) (suc i) past = taken_past cs i (omega arith)

taken_take : (count : ℕ) (cells : List Cell) (i : ℕ) → i < count → taken_at (take count cells) i ≡ taken_at cells i
taken_take zero cells i low = absurd (omega arith)
taken_take (suc k) [] i low = refl
taken_take (suc k) (c ∷ cs) zero low = refl
taken_take (suc k) (c ∷ cs) (suc i) low = taken_take k cs i (omega arith)

taken_drop : (start : ℕ) (cells : List Cell) (i : ℕ) → taken_at (drop start cells) i ≡ taken_at cells (start + i)
taken_drop zero cells i = let e : i ≡ 0 + i = omega arith in ap (taken_at cells) e
taken_drop (suc s) [] i = refl
taken_drop (suc s) (c ∷ cs) i = let e : suc (s + i) ≡ suc s + i = omega arith in taken_drop s cs i ∙ ap (taken_at (c ∷ cs)) e

-- the part from `first` on of at most `count` cells, as far as there are any
module _ (cells : List Cell) (first count start end : ℕ) (from : start ≡ min first (length cells)) (to : end ≡ min (start + count) (length cells)) where
  pub part_taken : (i : ℕ) → i < count → taken_at (take (end - start) (drop start cells)) i ≡ taken_at cells (first + i)
  part_taken i low =
      ⊎_elim
      (λ inside. let e : start + i ≡ first + i = omega arith in taken_take (end - start) (drop start cells) i inside ∙ taken_drop start cells i ∙ ap (taken_at cells) e)
      (λ past. let l = length-take (end - start) (drop start cells) in taken_past _ i (omega arith) ∙ sym (taken_past cells (first + i) (omega arith)))
      (cases_lt i (end - start))
