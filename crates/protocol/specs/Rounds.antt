-- The rounds of a ring: what each call may change, and what it leaves. Assumes nothing.
--   Opened     the state that open makes: nothing taken, nothing signed, a sound lead leading, the other sound ones waiting
--   Passed     the chains that a send of round r signs: the lead's order in round 1; later each taken chain of r - 1 names
--              that lacks the switch, with the switch's name at its end
--   Sent       a send: what it passes on is signed, and taken by every waiting switch
--   Still      the round and the standings are as before
--   Signed     a faulty switch signs a proper chain that ends with its name
--   Laid       a waiting switch is handed a proper chain of as many names as the round's number, each prefix of it signed
--   Sole       m is the only order of the chains that p holds
--   Weighs     the chains of m that p holds have the weight w
--   Heaviest   the set of the orders of the greatest weight, which is above 0
--   Becomes    from one standing to another
--   Closes     what the close of round r makes of the standing of p
--   Closed     a close: it changes standings alone
--   Call       one call, obeyed or refused; a refusal changes nothing
-- What is said of standings and of taken chains is said of sound switches alone: a faulty one has none.
use Rattle.std.specs.Prelude.{◌≡◌, ℕ, suc, ◌+◌, ◌<◌, ◌≤◌, Bool, true, false, ◌≢◌, ◌⊎◌, List, [], ◌∷◌, ◌++◌, length, take}
use Rattle.counting.specs.Lists.{has}
use Rattle.chain.specs.Chains.{Proper}
use Rattle.weight.specs.Weights.{Weight}
use Rattle.protocol.specs.declared.standings.Standing.{Standing}
use Rattle.protocol.specs.declared.standings.Standing.TheVariants.{Leading, Waiting, Carry, Done, Quit}
use Rattle.protocol.specs.Rings.{Ring, Sound}
use Rattle.protocol.specs.States.{State, Sends}

pub record Opened (g : Ring) (s : State) : Type 0 where
  pub closed : s.closed ≡ 0
  pub rests : s.listening ≡ false
  pub nothing_taken : (p m : ℕ) (names : List ℕ) → Sound g p → s.taken p m names ≡ false
  pub nothing_signed : (m : ℕ) (names : List ℕ) → s.signed m names ≡ false
  pub leads : g.sound g.lead ≡ true → s.standing g.lead ≡ Leading g.order
  pub waits : (p : ℕ) → Sound g p → p ≢ g.lead → s.standing p ≡ Waiting

pub data Passed (g : Ring) (s : State) (r m : ℕ) (names : List ℕ) : Type 0 where
  first : r ≡ 1 → g.sound g.lead ≡ true → s.standing g.lead ≡ Leading m → names ≡ g.lead ∷ [] → Passed g s r m names
  further : (p : ℕ) (front : List ℕ) → 2 ≤ r → Sound g p → Sends (s.standing p) → s.taken p m front ≡ true → suc (length front) ≡ r → has p front ≡ false → names ≡ front ++ p ∷ [] → Passed g s r m names

pub record Sent (g : Ring) (s s' : State) : Type 0 where
  pub rested : s.listening ≡ false
  pub room : s.closed < g.t + 1
  pub closed : s'.closed ≡ s.closed
  pub listens : s'.listening ≡ true
  pub standing : (p : ℕ) → Sound g p → s'.standing p ≡ s.standing p
  pub signs : (m : ℕ) (names : List ℕ) → s'.signed m names ≡ true → (s.signed m names ≡ true) ⊎ Passed g s (suc s.closed) m names
  pub keeps_signed : (m : ℕ) (names : List ℕ) → (s.signed m names ≡ true) ⊎ Passed g s (suc s.closed) m names → s'.signed m names ≡ true
  pub takes : (p m : ℕ) (names : List ℕ) → Sound g p → s'.taken p m names ≡ true → (s.taken p m names ≡ true) ⊎ ((s.standing p ≡ Waiting) × Passed g s (suc s.closed) m names)
  pub keeps_taken : (p m : ℕ) (names : List ℕ) → Sound g p → (s.taken p m names ≡ true) ⊎ ((s.standing p ≡ Waiting) × Passed g s (suc s.closed) m names) → s'.taken p m names ≡ true

pub record Still (g : Ring) (s s' : State) : Type 0 where
  pub closed : s'.closed ≡ s.closed
  pub listens : s'.listening ≡ s.listening
  pub standing : (p : ℕ) → Sound g p → s'.standing p ≡ s.standing p

pub record Signed (g : Ring) (s s' : State) (m : ℕ) (names : List ℕ) : Type 0 where
  pub listens : s.listening ≡ true
  pub signer : ℕ
  pub front : List ℕ
  pub ends : names ≡ front ++ signer ∷ []
  pub faulty : g.sound signer ≡ false
  pub proper : Proper g.n g.t g.lead names
  pub coded : m < g.codes
  pub still : Still g s s'
  pub takes : (p m' : ℕ) (names' : List ℕ) → Sound g p → s'.taken p m' names' ≡ s.taken p m' names'
  pub signs : (m' : ℕ) (names' : List ℕ) → s'.signed m' names' ≡ true → (s.signed m' names' ≡ true) ⊎ ((m' ≡ m) × (names' ≡ names))
  pub keeps : (m' : ℕ) (names' : List ℕ) → s.signed m' names' ≡ true → s'.signed m' names' ≡ true
  pub new : s'.signed m names ≡ true

pub record Laid (g : Ring) (s s' : State) (q m : ℕ) (names : List ℕ) : Type 0 where
  pub listens : s.listening ≡ true
  pub sound : Sound g q
  pub waits : s.standing q ≡ Waiting
  pub proper : Proper g.n g.t g.lead names
  pub round : length names ≡ suc s.closed
  pub shown : (k : ℕ) → k < length names → s.signed m (take (suc k) names) ≡ true
  pub still : Still g s s'
  pub signs : (m' : ℕ) (names' : List ℕ) → s'.signed m' names' ≡ s.signed m' names'
  pub takes : (p m' : ℕ) (names' : List ℕ) → Sound g p → s'.taken p m' names' ≡ true → (s.taken p m' names' ≡ true) ⊎ ((p ≡ q) × (m' ≡ m) × (names' ≡ names))
  pub keeps : (p m' : ℕ) (names' : List ℕ) → Sound g p → s.taken p m' names' ≡ true → s'.taken p m' names' ≡ true
  pub new : s'.taken q m names ≡ true

pub record Sole (s : State) (p m : ℕ) : Type 0 where
  pub names : List ℕ
  pub one : s.taken p m names ≡ true
  pub only : (m' : ℕ) (names' : List ℕ) → s.taken p m' names' ≡ true → m' ≡ m

abbrev pub Weighs : Ring → State → ℕ → ℕ → ℕ → Type 0
Weighs g s p m w = Weight g.n g.t (s.taken p m) w

pub record Heaviest (w : ℕ → ℕ) (h : ℕ → Bool) : Type 0 where
  pub one : ℕ
  pub heavy : 0 < w one
  pub in_it : h one ≡ true
  pub each : (m m' : ℕ) → h m ≡ true → w m' ≤ w m
  pub all : (m : ℕ) → w m ≡ w one → h m ≡ true

abbrev pub Becomes : Standing → Standing → Standing → Standing → Type 0
Becomes before after old new = (before ≡ old) × (after ≡ new)

pub data Closes (g : Ring) (s : State) (r p : ℕ) (before after : Standing) : Type 0 where
  led : (m : ℕ) → Becomes before after (Leading m) (Carry m) → Closes g s r p before after
  ends : (m : ℕ) → Becomes before after (Carry m) (Done m) → Closes g s r p before after
  done : (m : ℕ) → Becomes before after (Done m) (Done m) → Closes g s r p before after
  quit : Becomes before after Quit Quit → Closes g s r p before after
  early : (m w : ℕ) → Becomes before after Waiting (Carry m) → r < g.t + 1 → Sole s p m → Weighs g s p m w → g.t + 3 ≤ w + r → Closes g s r p before after
  waits : Becomes before after Waiting Waiting → r < g.t + 1 → ((m : ℕ) → Sole s p m → (w : ℕ) × Weighs g s p m w × (w + r < g.t + 3)) → Closes g s r p before after
  quits : Becomes before after Waiting Quit → r ≡ g.t + 1 → ((m : ℕ) → Weighs g s p m 0) → Closes g s r p before after
  picks : (w : ℕ → ℕ) (h : ℕ → Bool) → Becomes before after Waiting (Carry (g.pick h)) → r ≡ g.t + 1 → ((m : ℕ) → Weighs g s p m (w m)) → Heaviest w h → Closes g s r p before after

pub record Closed (g : Ring) (s s' : State) : Type 0 where
  pub listens : s.listening ≡ true
  pub rests : s'.listening ≡ false
  pub one_more : s'.closed ≡ suc s.closed
  pub takes : (p m : ℕ) (names : List ℕ) → Sound g p → s'.taken p m names ≡ s.taken p m names
  pub signs : (m : ℕ) (names : List ℕ) → s'.signed m names ≡ s.signed m names
  pub standing : (p : ℕ) → Sound g p → Closes g s (suc s.closed) p (s.standing p) (s'.standing p)

pub data Call (g : Ring) (s s' : State) : Type 0 where
  refused : s' ≡ s → Call g s s'
  sent : Sent g s s' → Call g s s'
  signed : (m : ℕ) (names : List ℕ) → Signed g s s' m names → Call g s s'
  laid : (q m : ℕ) (names : List ℕ) → Laid g s s' q m names → Call g s s'
  closed : Closed g s s' → Call g s s'
