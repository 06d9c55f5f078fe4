-- What a run keeps. Assumes nothing.
--   current      the round whose chains may exist: the one that is listened to, or else the last closed one
--   left         the history that is carried along: the round at whose close a switch stopped waiting, 0 while it waits
--   Stayed       a switch had not stopped waiting before round r: it took what was delivered in round r
--   Held         what is known of a chain that a follower holds
--   Delivered    what is known of a chain that a follower signed last
--   Stands       what is known of a follower, by its standing
--   LeadStands   what is known of a sound lead, by its standing
--   Invariant    all of this, of one state
use Rattle.std.proofs.Common.{◌≡◌, ℕ, suc, ◌+◌, ◌<◌, ◌≤◌, Bool, true, false, cond, ◌⊎◌, List, [], ◌∷◌, ◌++◌, length, take}
use Rattle.counting.specs.Lists.{has}
use Rattle.chain.specs.Chains.{Proper}
use Rattle.setting.specs.Quotes.{round}
use Rattle.protocol.specs.declared.standings.Standing.TheVariants.{Leading, Waiting, Carry, Done, Quit}
use Rattle.protocol.specs.Promises.{sound_count}
use Rattle.protocol.specs.Rings.{Ring, Follows}
use Rattle.protocol.specs.Rounds.{Sole, Weighs, Heaviest}
use Rattle.protocol.specs.States.{State}

abbrev pub current : State → ℕ
current s = cond s.listening (suc s.closed) s.closed

abbrev pub Stayed : (ℕ → ℕ) → ℕ → ℕ → Type 0
Stayed left p r = (left p ≡ 0) ⊎ (r ≤ left p)

pub record Held (g : Ring) (s : State) (left : ℕ → ℕ) (p m : ℕ) (names : List ℕ) : Type 0 where
  pub proper : Proper g.n g.t g.lead names
  pub coded : m < g.codes
  pub shown : (k : ℕ) → k < length names → s.signed m (take (suc k) names) ≡ true
  pub soon : length names ≤ current s
  pub stayed : Stayed left p (length names)

pub record Delivered (g : Ring) (s : State) (left : ℕ → ℕ) (q m : ℕ) (front : List ℕ) : Type 0 where
  pub soon : suc (length front) ≤ current s
  pub own : s.taken q m front ≡ true
  pub all : (p : ℕ) → Follows g p → Stayed left p (suc (length front)) → s.taken p m (front ++ q ∷ []) ≡ true

pub data Stands (g : Ring) (s : State) (left : ℕ → ℕ) (p : ℕ) : Type 0 where
  waits : s.standing p ≡ Waiting → left p ≡ 0 → s.closed ≤ g.t → Stands g s left p
  early : (m w : ℕ) → ((s.standing p ≡ Carry m) × (left p ≡ s.closed)) ⊎ ((s.standing p ≡ Done m) × (left p < s.closed)) → 1 ≤ left p → left p ≤ g.t → Sole s p m → Weighs g s p m w → g.t + 3 ≤ w + left p → Stands g s left p
  last : (w : ℕ → ℕ) (h : ℕ → Bool) → s.standing p ≡ Carry (g.pick h) → left p ≡ g.t + 1 → s.closed ≡ g.t + 1 → ((m : ℕ) → Weighs g s p m (w m)) → Heaviest w h → Stands g s left p
  quit : s.standing p ≡ Quit → left p ≡ g.t + 1 → s.closed ≡ g.t + 1 → ((m : ℕ) → Weighs g s p m 0) → Stands g s left p

pub data LeadStands (g : Ring) (s : State) : Type 0 where
  leading : s.closed ≡ 0 → s.standing g.lead ≡ Leading g.order → LeadStands g s
  carrying : s.closed ≡ 1 → s.standing g.lead ≡ Carry g.order → LeadStands g s
  done : 2 ≤ s.closed → s.standing g.lead ≡ Done g.order → LeadStands g s

pub record Invariant (g : Ring) (s : State) : Type 0 where
  pub left : ℕ → ℕ
  pub held : (p m : ℕ) (names : List ℕ) → Follows g p → s.taken p m names ≡ true → Held g s left p m names
  pub passed_on : (p m : ℕ) (names : List ℕ) → Follows g p → s.taken p m names ≡ true → has p names ≡ false → length names < current s → s.signed m (names ++ p ∷ []) ≡ true
  pub delivered : (q m : ℕ) (front : List ℕ) → Follows g q → s.signed m (front ++ q ∷ []) ≡ true → Delivered g s left q m front
  pub ledger : (m : ℕ) (names : List ℕ) → s.signed m names ≡ true → Proper g.n g.t g.lead names × (m < g.codes)
  pub stands : (p : ℕ) → Follows g p → Stands g s left p
  pub few_rounds : s.closed ≤ g.t + 1
  pub room : s.listening ≡ true → s.closed ≤ g.t
  -- under a sound lead
  pub led : g.sound g.lead ≡ true → (m : ℕ) → s.signed m (g.lead ∷ []) ≡ true → (m ≡ g.order) × ((p : ℕ) → Follows g p → s.taken p g.order (g.lead ∷ []) ≡ true)
  pub begun : g.sound g.lead ≡ true → 1 ≤ current s → s.signed g.order (g.lead ∷ []) ≡ true
  pub lead_stands : g.sound g.lead ≡ true → LeadStands g s
  pub idle : g.sound g.lead ≡ true → (m : ℕ) (names : List ℕ) → s.taken g.lead m names ≡ true → ⊥
  pub in_time : g.sound g.lead ≡ true → (p : ℕ) → Follows g p → left p ≡ 0 → s.closed < round g.t (sound_count g)
