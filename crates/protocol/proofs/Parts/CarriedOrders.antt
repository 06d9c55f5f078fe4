-- What a standing says of the order that was carried out. Assumes nothing.
use Rattle.std.proofs.Common.{◌≡◌, ℕ, ◌≤◌, sym, ap, ◌∙◌, ⊎_elim, arith}
use Rattle.protocol.specs.declared.standings.Standing.{Standing}
use Rattle.protocol.specs.States.{Carried}
use Rattle.protocol.proofs.Same.{kind, code}

-- it is neither leading nor waiting, and it has not quit
pub carried_kind : (a : Standing) (m : ℕ) → Carried a m → (2 ≤ kind a) × (kind a ≤ 3)
carried_kind a m carried = ⊎_elim (λ c. let k = ap kind c in (omega arith, omega arith)) (λ d. let k = ap kind d in (omega arith, omega arith)) carried

-- the order stands in it
pub carried_code : (a : Standing) (m : ℕ) → Carried a m → code a ≡ m
carried_code a m carried = ⊎_elim (λ c. ap code c) (λ d. ap code d) carried

-- one standing, one order
pub same_order : (a : Standing) (m m' : ℕ) → Carried a m → Carried a m' → m ≡ m'
same_order a m m' one other = sym (carried_code a m one) ∙ carried_code a m' other
