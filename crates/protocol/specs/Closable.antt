-- That a close can be made. Assumes nothing.
--   Reckoned   what is found by looking at a switch's chains: its only order or that it has none, the weights of all orders,
--              and the set of the heaviest or that none weighs anything
--   Closable   for each standing of a switch, in each round, there is a standing that the close makes of it
use Rattle.std.specs.Prelude.{◌≡◌, ℕ, ◌+◌, ◌≤◌, Bool, ◌⊎◌}
use Rattle.protocol.specs.declared.standings.Standing.{Standing}
use Rattle.protocol.specs.Rings.{Ring}
use Rattle.protocol.specs.Rounds.{Sole, Weighs, Heaviest, Closes}
use Rattle.protocol.specs.States.{State}

pub record Reckoned (g : Ring) (s : State) (p : ℕ) : Type 0 where
  pub sole : ((m : ℕ) × Sole s p m) ⊎ ((m : ℕ) → Sole s p m → ⊥)
  pub weights : ℕ → ℕ
  pub weighs : (m : ℕ) → Weighs g s p m (weights m)
  pub heaviest : ((h : ℕ → Bool) × Heaviest weights h) ⊎ ((m : ℕ) → weights m ≡ 0)

abbrev pub Closable : Type 0
Closable = (g : Ring) (s : State) (r p : ℕ) (before : Standing) → r ≤ g.t + 1 → Reckoned g s p → (after : Standing) × Closes g s r p before after
