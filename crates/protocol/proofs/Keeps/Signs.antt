-- A sign keeps the invariant: nobody takes the new chain yet, and its last name is no sound one. Assumes nothing.
use Rattle.std.proofs.Common.{◌≡◌, ℕ, suc, ◌<◌, ◌≤◌, true, false, List, [], ◌∷◌, ◌++◌, length, sym, ◌∙◌, subst, ⊎_elim, arith}
use Rattle.std.proofs.lemmas.Bool.{both_ways}
use Rattle.counting.specs.Lists.{has}
use Rattle.counting.proofs.Splits.{last_same}
use Rattle.chain.specs.Chains.{Proper}
use Rattle.protocol.specs.Rings.{Ring, Fair, Follows}
use Rattle.protocol.specs.Rounds.{Signed}
use Rattle.protocol.specs.States.{State}
use Rattle.protocol.proofs.Invariant.{Invariant, Held, Delivered, Stands, current}
use Rattle.protocol.proofs.Keeps.Stands.{current_still, sound_follower, stands_kept, lead_stands_kept}

module _ (g : Ring) (fair : Fair g) (s s' : State) (m : ℕ) (names : List ℕ) (inv : Invariant g s) (e : Signed g s s' m names) where
  now : current s' ≡ current s
  now = current_still g s s' e.still

  -- what a follower holds, it held before
  before : (p m' : ℕ) (names' : List ℕ) → Follows g p → s'.taken p m' names' ≡ true → s.taken p m' names' ≡ true
  before p m' names' follows here = sym (e.takes p m' names' (sound_follower g p follows)) ∙ here

  after : (p m' : ℕ) (names' : List ℕ) → Follows g p → s.taken p m' names' ≡ true → s'.taken p m' names' ≡ true
  after p m' names' follows here = e.takes p m' names' (sound_follower g p follows) ∙ here

  -- a chain that ends with a sound name was signed before
  sound_before : (m' q : ℕ) (front : List ℕ) → g.sound q ≡ true → s'.signed m' (front ++ q ∷ []) ≡ true → s.signed m' (front ++ q ∷ []) ≡ true
  sound_before m' q front sound here =
      ⊎_elim
      (λ old. old)
      (λ new.
      let same = last_same front e.front q e.signer (new.1 ∙ e.ends) in
      absurd (both_ways _ (subst (λ z. g.sound z ≡ false) (sym same.1) e.faulty) sound))
      (e.signs m' (front ++ q ∷ []) here)

  held_next : (p m' : ℕ) (names' : List ℕ) → Follows g p → s'.taken p m' names' ≡ true → Held g s' inv.left p m' names'
  held_next p m' names' follows here =
      let h = inv.held p m' names' follows (before p m' names' follows here) in
      record {
        proper = h.proper;
        coded = h.coded;
        shown = λ k low. e.keeps m' _ (h.shown k low);
        soon = subst (λ r. length names' ≤ r) (sym now) h.soon;
        stayed = h.stayed;
      }

  passed_on_next : (p m' : ℕ) (names' : List ℕ) → Follows g p → s'.taken p m' names' ≡ true → has p names' ≡ false → length names' < current s' → s'.signed m' (names' ++ p ∷ []) ≡ true
  passed_on_next p m' names' follows here new short = e.keeps m' _ (inv.passed_on p m' names' follows (before p m' names' follows here) new (subst (λ r. length names' < r) now short))

  delivered_next : (q m' : ℕ) (front : List ℕ) → Follows g q → s'.signed m' (front ++ q ∷ []) ≡ true → Delivered g s' inv.left q m' front
  delivered_next q m' front follows here =
      let d = inv.delivered q m' front follows (sound_before m' q front follows.1 here) in
      record {
        soon = subst (λ r. suc (length front) ≤ r) (sym now) d.soon;
        own = after q m' front follows d.own;
        all = λ p follows_p stayed. after p m' _ follows_p (d.all p follows_p stayed);
      }

  ledger_next : (m' : ℕ) (names' : List ℕ) → s'.signed m' names' ≡ true → Proper g.n g.t g.lead names' × (m' < g.codes)
  ledger_next m' names' here =
      ⊎_elim
      (λ old. inv.ledger m' names' old)
      (λ new. let coded = e.coded in let same = new.0 in (subst (Proper g.n g.t g.lead) (sym new.1) e.proper, omega arith))
      (e.signs m' names' here)

  stands_next : (p : ℕ) → Follows g p → Stands g s' inv.left p
  stands_next p follows =
      let sound = sound_follower g p follows in
      stands_kept g s s' inv.left p e.still.closed (e.still.standing p sound) (λ _ m' names'. e.takes p m' names' sound) (inv.stands p follows)

  led_next : g.sound g.lead ≡ true → (m' : ℕ) → s'.signed m' (g.lead ∷ []) ≡ true → (m' ≡ g.order) × ((p : ℕ) → Follows g p → s'.taken p g.order (g.lead ∷ []) ≡ true)
  led_next sound m' here =
      let old = inv.led sound m' (sound_before m' g.lead [] sound here) in
      (old.0, λ p follows. after p g.order _ follows (old.1 p follows))

  kept : Invariant g s'
  kept =
      let closed = e.still.closed in
      let few = inv.few_rounds in
      record {
        left = inv.left;
        held = held_next;
        passed_on = passed_on_next;
        delivered = delivered_next;
        ledger = ledger_next;
        stands = stands_next;
        few_rounds = omega arith;
        room = λ on. let low = inv.room (sym e.still.listens ∙ on) in omega arith;
        led = led_next;
        begun = λ sound some. e.keeps g.order _ (inv.begun sound (subst (λ r. 1 ≤ r) now some));
        lead_stands = λ sound. lead_stands_kept g s s' closed (e.still.standing g.lead (fair.leads, sound)) (inv.lead_stands sound);
        idle = λ sound m' names' here. inv.idle sound m' names' (sym (e.takes g.lead m' names' (fair.leads, sound)) ∙ here);
        in_time = λ sound p follows waiting. let time = inv.in_time sound p follows waiting in omega arith;
      }

pub sign_keeps : (g : Ring) → Fair g → (s s' : State) (m : ℕ) (names : List ℕ) → Invariant g s → Signed g s s' m names → Invariant g s'
sign_keeps = kept
