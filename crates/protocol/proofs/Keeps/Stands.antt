-- What follows from how a follower or a sound lead stands, and when it stands so in a later state too. Assumes nothing.
use Rattle.std.proofs.Common.{◌≡◌, ℕ, suc, ◌≤◌, true, false, cond, ◌≢◌, List, sym, ap, ◌∙◌, inl, inr, arith}
use Rattle.std.proofs.lemmas.Bool.{cond-true, cond-false}
use Rattle.protocol.specs.declared.standings.Standing.TheVariants.{Leading, Waiting}
use Rattle.protocol.specs.Rings.{Ring, Sound, Follows}
use Rattle.protocol.specs.Rounds.{Still}
use Rattle.protocol.specs.States.{State, Sends}
use Rattle.protocol.proofs.Invariant.{current, Stayed, Stands, waits, early, last, quit, LeadStands, leading, carrying, done}
use Rattle.protocol.proofs.Same.{kind, code, sole_same, weighs_same}

pub sound_follower : (g : Ring) (p : ℕ) → Follows g p → Sound g p
sound_follower g p follows = (follows.0, follows.1)

-- the current round, by whether a send has been made since the last close
pub current_listens : (s : State) → s.listening ≡ true → current s ≡ suc s.closed
current_listens s on = cond-true _ _ _ on

pub current_rests : (s : State) → s.listening ≡ false → current s ≡ s.closed
current_rests s off = cond-false _ _ _ off

pub current_still : (g : Ring) (s s' : State) → Still g s s' → current s' ≡ current s
current_still g s s' still = λ i. cond (still.listens i) (suc (still.closed i)) (still.closed i)

module _ (g : Ring) (s : State) (left : ℕ → ℕ) (p : ℕ) where
  -- no switch has stopped waiting at a round that is not closed
  pub left_low : Stands g s left p → left p ≤ s.closed
  left_low (waits stand zero_left few) = omega arith
  left_low (early m w (inl carry) some few sole weight high) = let e = carry.1 in omega arith
  left_low (early m w (inr ended) some few sole weight high) = let e = ended.1 in omega arith
  left_low (last w h stand at_last closed weights heavy) = omega arith
  left_low (quit stand at_last closed weights) = omega arith

  -- a follower waits exactly while it has not stopped waiting
  pub waits_if_zero : Stands g s left p → left p ≡ 0 → s.standing p ≡ Waiting
  waits_if_zero (waits stand zero_left few) zero_here = stand
  waits_if_zero (early m w how some few sole weight high) zero_here = absurd (omega arith)
  waits_if_zero (last w h stand at_last closed weights heavy) zero_here = absurd (omega arith)
  waits_if_zero (quit stand at_last closed weights) zero_here = absurd (omega arith)

  pub zero_if_waits : Stands g s left p → s.standing p ≡ Waiting → left p ≡ 0
  zero_if_waits (waits stand zero_left few) waiting = zero_left
  zero_if_waits (early m w (inl carry) some few sole weight high) waiting = let k = ap kind (sym waiting ∙ carry.0) in absurd (omega arith)
  zero_if_waits (early m w (inr ended) some few sole weight high) waiting = let k = ap kind (sym waiting ∙ ended.0) in absurd (omega arith)
  zero_if_waits (last w h stand at_last closed weights heavy) waiting = let k = ap kind (sym waiting ∙ stand) in absurd (omega arith)
  zero_if_waits (quit stand at_last closed weights) waiting = let k = ap kind (sym waiting ∙ stand) in absurd (omega arith)

  -- before the last round is closed, a switch that took chains of the last closed round sends
  pub sends_on : Stands g s left p → s.closed ≤ g.t → Stayed left p s.closed → Sends (s.standing p)
  sends_on (waits stand zero_left few) room stayed = inl stand
  sends_on (early m w (inl carry) some few sole weight high) room stayed = inr (m, carry.0)
  sends_on (early m w (inr ended) some few sole weight high) room stayed = let e = ended.1 in absurd (omega arith)
  sends_on (last w h stand at_last closed weights heavy) room stayed = absurd (omega arith)
  sends_on (quit stand at_last closed weights) room stayed = absurd (omega arith)

-- while the round and its standing stay and it takes nothing once it has stopped waiting, a follower stands as before
module _ (g : Ring) (s s' : State) (left : ℕ → ℕ) (p : ℕ) (closed : s'.closed ≡ s.closed) (standing : s'.standing p ≡ s.standing p) (same : s.standing p ≢ Waiting → (m : ℕ) (names : List ℕ) → s'.taken p m names ≡ s.taken p m names) where
  pub stands_kept : Stands g s left p → Stands g s' left p
  stands_kept (waits stand zero_left few) = waits (standing ∙ stand) zero_left (omega arith)
  stands_kept (early m w (inl carry) some few sole weight high) =
      let gone = same (λ waiting. let k = ap kind (sym waiting ∙ carry.0) in omega arith) in
      early m w (inl (standing ∙ carry.0, carry.1 ∙ sym closed)) some few (sole_same s s' p gone m sole) (weighs_same s s' p gone g m w weight) high
  stands_kept (early m w (inr ended) some few sole weight high) =
      let gone = same (λ waiting. let k = ap kind (sym waiting ∙ ended.0) in omega arith) in
      let before = ended.1 in
      early m w (inr (standing ∙ ended.0, omega arith)) some few (sole_same s s' p gone m sole) (weighs_same s s' p gone g m w weight) high
  stands_kept (last w h stand at_last round weights heavy) =
      let gone = same (λ waiting. let k = ap kind (sym waiting ∙ stand) in omega arith) in
      last w h (standing ∙ stand) at_last (closed ∙ round) (λ m. weighs_same s s' p gone g m (w m) (weights m)) heavy
  stands_kept (quit stand at_last round weights) =
      let gone = same (λ waiting. let k = ap kind (sym waiting ∙ stand) in omega arith) in
      quit (standing ∙ stand) at_last (closed ∙ round) (λ m. weighs_same s s' p gone g m 0 (weights m))

module _ (g : Ring) (s : State) where
  -- a sound lead leads with its order
  pub lead_order : LeadStands g s → (m : ℕ) → s.standing g.lead ≡ Leading m → m ≡ g.order
  lead_order (leading closed stand) m here = ap code (sym here ∙ stand)
  lead_order (carrying closed stand) m here = let k = ap kind (sym here ∙ stand) in absurd (omega arith)
  lead_order (done closed stand) m here = let k = ap kind (sym here ∙ stand) in absurd (omega arith)

  -- a sound lead does not wait
  pub lead_acts : LeadStands g s → s.standing g.lead ≢ Waiting
  lead_acts (leading closed stand) waiting = let k = ap kind (sym waiting ∙ stand) in omega arith
  lead_acts (carrying closed stand) waiting = let k = ap kind (sym waiting ∙ stand) in omega arith
  lead_acts (done closed stand) waiting = let k = ap kind (sym waiting ∙ stand) in omega arith

  -- before a round is closed a sound lead leads
  pub lead_leads : LeadStands g s → s.closed ≡ 0 → s.standing g.lead ≡ Leading g.order
  lead_leads (leading closed stand) none = stand
  lead_leads (carrying closed stand) none = absurd (omega arith)
  lead_leads (done closed stand) none = absurd (omega arith)

  pub lead_stands_kept : (s' : State) → s'.closed ≡ s.closed → s'.standing g.lead ≡ s.standing g.lead → LeadStands g s → LeadStands g s'
  lead_stands_kept s' same standing (leading closed stand) = leading (omega arith) (standing ∙ stand)
  lead_stands_kept s' same standing (carrying closed stand) = carrying (omega arith) (standing ∙ stand)
  lead_stands_kept s' same standing (done closed stand) = done (omega arith) (standing ∙ stand)
