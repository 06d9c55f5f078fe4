-- What every run of a ring promises. Assumes nothing.
--   sound_count   c, how many switches are sound
--   HasCarried    a switch has carried out some order
--   Promise       what holds of every run of one ring
--   Promised      what holds of every run of every ring
use Rattle.std.specs.Prelude.{◌≡◌, ℕ, ◌+◌, ◌<◌, ◌≤◌, true, ◌⊎◌}
use Rattle.counting.specs.Lists.{tally}
use Rattle.setting.specs.Quotes.{round}
use Rattle.protocol.specs.declared.standings.Standing.TheVariants.{Done, Quit}
use Rattle.protocol.specs.Rings.{Ring, Fair, Sound}
use Rattle.protocol.specs.Rounds.{Opened}
use Rattle.protocol.specs.Runs.{Calls, LeadSigned}
use Rattle.protocol.specs.States.{State, Carried}

abbrev pub sound_count : Ring → ℕ
sound_count g = tally g.sound g.n

abbrev pub HasCarried : State → ℕ → Type 0
HasCarried s p = (m : ℕ) × Carried (s.standing p) m

pub record Promise (g : Ring) : Type 0 where
  -- no two orders, at any two switches or at one, and at any two moments of one run
  pub one_order : (o s s' : State) → Opened g o → Calls g o s → Calls g s s' → (p q m m' : ℕ) → Sound g p → Sound g q → Carried (s.standing p) m → Carried (s'.standing q) m' → m ≡ m'
  -- none that the lead has not signed
  pub signed : (o s : State) → Opened g o → (calls : Calls g o s) → (p m : ℕ) → Sound g p → Carried (s.standing p) m → LeadSigned g calls m
  -- what a switch has carried out it has carried out ever after, and is done with after the next close: it acts once
  pub once : (s s' : State) → Calls g s s' → (p m : ℕ) → Sound g p → Carried (s.standing p) m → Carried (s'.standing p) m × (s.closed < s'.closed → s'.standing p ≡ Done m)
  -- once round t + 1 is closed, nobody leads or waits
  pub ended : (o s : State) → Opened g o → Calls g o s → g.t + 1 ≤ s.closed → (p : ℕ) → Sound g p → HasCarried s p ⊎ (s.standing p ≡ Quit)
  -- and all have carried out an order or none has
  pub all_or_none : (o s : State) → Opened g o → Calls g o s → g.t + 1 ≤ s.closed → ((p : ℕ) → Sound g p → HasCarried s p) ⊎ ((p : ℕ) → Sound g p → HasCarried s p → ⊥)
  -- under a sound lead, all by the quoted round. (That of a lead that is alone is past the last round.)
  pub in_time : (o s : State) → Opened g o → Calls g o s → g.sound g.lead ≡ true → round g.t (sound_count g) ≤ s.closed → (p : ℕ) → Sound g p → Carried (s.standing p) g.order

abbrev pub Promised : Type 0
Promised = (g : Ring) → Fair g → Promise g
