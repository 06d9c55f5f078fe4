-- How heavily the chains that a switch holds speak for an order. Assumes nothing.
--   held      a test on lists of names: the switch holds the chain of the order with these names
--   S         the second names of the held chains, whatever their length: the switches that back the order
--   Seconds   S is that set
--   hidden    for a weight w, the names of a chain at the positions 2 to t + 3 - w, counted from 1
--   Bears     a chain bears w if S without its hidden names has at least w - 2 names
--   Borne     some held chain of two or more names bears w
--   Weight    w is the greatest weight borne; 0 if no chain of two or more names is held
--   Smaller   a chain that bears a weight bears every smaller one, so that a search downwards misses none
use Rattle.std.specs.Prelude.{◌≡◌, ℕ, ◌+◌, ◌-◌, ◌<◌, ◌≤◌, Bool, true, not, ◌&&◌, ◌⊎◌, List, ◌∷◌, length, take, drop}
use Rattle.counting.specs.Lists.{has, tally}

pub record Seconds (held : List ℕ → Bool) (S : ℕ → Bool) : Type 0 where
  pub each : (l q : ℕ) (rest : List ℕ) → held (l ∷ q ∷ rest) ≡ true → S q ≡ true
  pub only : (q : ℕ) → S q ≡ true → (l : ℕ) × (rest : List ℕ) × (held (l ∷ q ∷ rest) ≡ true)

abbrev pub hidden : ℕ → ℕ → List ℕ → List ℕ
hidden t w names = take (t + 2 - w) (drop 1 names)

abbrev pub Bears : (n t : ℕ) → (ℕ → Bool) → ℕ → List ℕ → Type 0
Bears n t S w names = w ≤ 2 + tally (λ q. S q && not (has q (hidden t w names))) n

pub record Borne (n t : ℕ) (held : List ℕ → Bool) (S : ℕ → Bool) (w : ℕ) : Type 0 where
  pub names : List ℕ
  pub here : held names ≡ true
  pub long : 2 ≤ length names
  pub bears : Bears n t S w names

pub record Weight (n t : ℕ) (held : List ℕ → Bool) (w : ℕ) : Type 0 where
  pub S : ℕ → Bool
  pub seconds : Seconds held S
  pub reached : ((w ≡ 0) × ((names : List ℕ) → held names ≡ true → length names < 2)) ⊎ Borne n t held S w
  pub most : (v : ℕ) → Borne n t held S v → v ≤ w

abbrev pub Smaller : ℕ → ℕ → Type 0
Smaller n t = (S : ℕ → Bool) (names : List ℕ) (w v : ℕ) → v ≤ w → Bears n t S w names → Bears n t S v names
