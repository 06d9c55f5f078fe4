-- A ring of switches. Assumes nothing.
--   n, t      how many switches there are, named from 0, and how many faulty ones are tolerated
--   lead      the switch that the order comes from
--   codes     how many codes of orders there are; an order is its code
--   sound     which switches follow the rules; nothing is known of the others
--   order     the order of a sound lead
--   pick      the plant's rule for ties: what it takes from a set of codes. It depends on the set alone
--   Fair      what is asked of a ring: it tolerates 1 fault or more, its lead is one of its switches, at most t are faulty,
--             and its rule for ties takes a member of every set that has a code in it
--   Sound     a switch of the ring that is sound
--   Follows   a sound switch other than the lead
use Rattle.std.specs.Prelude.{◌≡◌, ℕ, ◌<◌, ◌≤◌, Bool, true, not, ◌≢◌}
use Rattle.counting.specs.Lists.{tally}

pub record Ring : Type 0 where
  pub n : ℕ
  pub t : ℕ
  pub lead : ℕ
  pub codes : ℕ
  pub sound : ℕ → Bool
  pub order : ℕ
  pub pick : (ℕ → Bool) → ℕ

pub record Fair (g : Ring) : Type 0 where
  pub least : 1 ≤ g.t
  pub leads : g.lead < g.n
  pub faults : tally (λ p. not (g.sound p)) g.n ≤ g.t
  pub coded : g.sound g.lead ≡ true → g.order < g.codes
  pub member : (set : ℕ → Bool) (m : ℕ) → m < g.codes → set m ≡ true → set (g.pick set) ≡ true

abbrev pub Sound : Ring → ℕ → Type 0
Sound g p = (p < g.n) × (g.sound p ≡ true)

abbrev pub Follows : Ring → ℕ → Type 0
Follows g p = (p < g.n) × (g.sound p ≡ true) × (p ≢ g.lead)
