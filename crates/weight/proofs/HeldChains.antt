-- The chains that the cells of one order hold. Assumes nothing.
use Rattle.std.proofs.Common.{◌≡◌, ℕ, ◌+◌, ◌-◌, ◌*◌, ◌/◌, ◌<◌, ◌≤◌, true, ◌&&◌, List, length, sym, ap, ◌∙◌, ⊎_elim, arith}
use native.Mathlib.Nat.{div-eq_of_lt}
use Rattle.std.proofs.lemmas.Bool.{true≢false, cases_Bool, cases_lt, and_parts, and_from, and_left, lt-ltb}
use Rattle.chain.specs.Chains.{Proper, is_proper}
use Rattle.chain.specs.Places.{per_order, place_of, within}
use Rattle.chain.proofs.Numbering.{within_low, within_high, within_all, shorter_grows}
use Rattle.chain.proofs.ProperChains.{proper_from, proper_test}
use Rattle.weight.specs.declared.cells.Cell.{Cell}
use Rattle.weight.specs.Cells.{taken_at, held_in, holds}
use Rattle.weight.proofs.TakenCells.{taken_past}

-- a chain of two or more names comes after that of the lead alone
pub long_within : (n t lead : ℕ) (names : List ℕ) → Proper n t lead names → 2 ≤ length names → 1 ≤ within n names
long_within n t lead names p long =
    let low = within_low n t lead names p in
    let grows = shorter_grows (n - 1) 1 (length names - 1) (omega arith) in
    omega arith

-- and the chain of the lead alone has the first place
pub within_long : (n t lead : ℕ) (names : List ℕ) → Proper n t lead names → 1 ≤ within n names → 2 ≤ length names
within_long n t lead names p past =
    let high = within_high n t lead names p in
    ⊎_elim
    (λ short. let grows = shorter_grows (n - 1) (length names) 1 (omega arith) in absurd (omega arith))
    (λ long. long)
    (cases_lt (length names) 2)

module _ (n t lead : ℕ) (part : List Cell) (names : List ℕ) where
  pub held_from : Proper n t lead names → taken_at part (within n names) ≡ true → held_in n t lead part names ≡ true
  held_from p on = and_from _ _ (proper_test n t lead names p) on

  module _ (held : held_in n t lead part names ≡ true) where
    pub held_proper : Proper n t lead names
    held_proper = proper_from n t lead names (and_parts (is_proper n t lead names) (taken_at part (within n names)) held).0

    pub held_taken : taken_at part (within n names) ≡ true
    held_taken = (and_parts (is_proper n t lead names) (taken_at part (within n names)) held).1

    pub held_inside : within n names < length part
    held_inside = ⊎_elim (λ inside. inside) (λ past. absurd (true≢false (sym held_taken ∙ taken_past part (within n names) past))) (cases_lt (within n names) (length part))

-- the cells of one order among all
pub held_same : (n t lead code : ℕ) (cells part : List Cell) → code < 16 → ((k : ℕ) → k < per_order n t → taken_at part k ≡ taken_at cells (code * per_order n t + k)) → (names : List ℕ) → held_in n t lead part names ≡ holds n t lead cells code names
held_same n t lead code cells part low same names =
    sym (ap (λ b. b && (is_proper n t lead names && taken_at cells (place_of n t code names))) (lt-ltb code 16 low) ∙
    ⊎_elim
    (λ on. sym (ap (λ b. is_proper n t lead names && b) (same (within n names) (within_all n t lead names (proper_from n t lead names on)))))
    (λ off. and_left _ _ off ∙ sym (and_left _ _ off))
    (cases_Bool (is_proper n t lead names)))

-- the chain of a place of one order
pub place_is_within : (n t lead at : ℕ) (names : List ℕ) → Proper n t lead names → at < per_order n t → place_of n t (at / per_order n t) names ≡ at → within n names ≡ at
place_is_within n t lead at names p low is =
    let first : at / per_order n t ≡ 0 = div-eq_of_lt low in
    let none = ap (λ k. k * per_order n t) first in
    omega arith
