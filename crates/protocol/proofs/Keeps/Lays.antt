-- A lay keeps the invariant: a waiting follower holds one chain more, of as many names as the round's number. Assumes nothing.
use Rattle.std.proofs.Common.{◌≡◌, ℕ, suc, ◌<◌, ◌≤◌, true, false, ◌≢◌, List, [], ◌∷◌, ◌++◌, length, take, sym, ap, ◌∙◌, subst, inl, ⊎_elim, arith}
use Rattle.std.proofs.lemmas.List.{take_all}
use Rattle.std.proofs.lemmas.Bool.{cases_Bool, both_ways}
use Rattle.counting.specs.Lists.{has}
use Rattle.protocol.specs.declared.standings.Standing.TheVariants.{Waiting}
use Rattle.protocol.specs.Rings.{Ring, Fair, Sound, Follows}
use Rattle.protocol.specs.Rounds.{Laid}
use Rattle.protocol.specs.States.{State}
use Rattle.protocol.proofs.Invariant.{current, Held, Delivered, Stands, Invariant}
use Rattle.protocol.proofs.Same.{same_test}
use Rattle.protocol.proofs.Keeps.Stands.{sound_follower, current_listens, current_still, zero_if_waits, stands_kept, lead_acts, lead_stands_kept}

module _ (g : Ring) (fair : Fair g) (s s' : State) (q m : ℕ) (names : List ℕ) (inv : Invariant g s) (e : Laid g s s' q m names) where
  same_current : current s' ≡ current s
  same_current = current_still g s s' e.still

  -- a sound lead does not wait, and a faulty one is handed nothing
  not_lead : q ≢ g.lead
  not_lead here =
      ⊎_elim
      (λ sound. lead_acts g s (inv.lead_stands sound) (subst (λ p. s.standing p ≡ Waiting) here e.waits))
      (λ faulty. both_ways (g.sound g.lead) faulty (subst (λ p. g.sound p ≡ true) here e.sound.1))
      (cases_Bool (g.sound g.lead))

  follows_q : Follows g q
  follows_q = (e.sound.0, e.sound.1, not_lead)

  -- the whole chain is signed
  whole : s.signed m names ≡ true
  whole =
      let round = e.round in
      subst (λ l. s.signed m l ≡ true) (take_all (suc s.closed) names (omega arith)) (e.shown s.closed (omega arith))

  signed_after : (m' : ℕ) (l : List ℕ) → s.signed m' l ≡ true → s'.signed m' l ≡ true
  signed_after m' l here = e.signs m' l ∙ here

  signed_before : (m' : ℕ) (l : List ℕ) → s'.signed m' l ≡ true → s.signed m' l ≡ true
  signed_before m' l here = sym (e.signs m' l) ∙ here

  -- the new chain is held as it should be
  held_new : Held g s' inv.left q m names
  held_new =
      record {
        proper = e.proper;
        coded = (inv.ledger m names whole).1;
        shown = λ k low. signed_after m (take (suc k) names) (e.shown k low);
        soon = let now = same_current ∙ current_listens s e.listens in let round = e.round in omega arith;
        stayed = inl (zero_if_waits g s inv.left q (inv.stands q follows_q) e.waits);
      }

  held_old : (p m' : ℕ) (l : List ℕ) → Held g s inv.left p m' l → Held g s' inv.left p m' l
  held_old p m' l h =
      record {
        proper = h.proper;
        coded = h.coded;
        shown = λ k low. signed_after m' (take (suc k) l) (h.shown k low);
        soon = let same = same_current in let soon = h.soon in omega arith;
        stayed = h.stayed;
      }

  held_after : (p m' : ℕ) (l : List ℕ) → Follows g p → s'.taken p m' l ≡ true → Held g s' inv.left p m' l
  held_after p m' l follows here =
      ⊎_elim
      (λ before. held_old p m' l (inv.held p m' l follows before))
      (λ new.
      let at_q = subst (λ l'. Held g s' inv.left q m l') (sym new.2) held_new in
      let at_m = subst (λ k. Held g s' inv.left q k l) (sym new.1) at_q in
      subst (λ p'. Held g s' inv.left p' m' l) (sym new.0) at_m)
      (e.takes p m' l (sound_follower g p follows) here)

  -- the new chain is passed on in the next round only
  passed_on_after : (p m' : ℕ) (l : List ℕ) → Follows g p → s'.taken p m' l ≡ true → has p l ≡ false → length l < current s' → s'.signed m' (l ++ p ∷ []) ≡ true
  passed_on_after p m' l follows here out short =
      let same = same_current in
      ⊎_elim
      (λ before. signed_after m' (l ++ p ∷ []) (inv.passed_on p m' l follows before out (omega arith)))
      (λ new.
      let now = current_listens s e.listens in
      let long = ap length new.2 in
      let round = e.round in
      absurd (omega arith))
      (e.takes p m' l (sound_follower g p follows) here)

  delivered_after : (p m' : ℕ) (front : List ℕ) → Follows g p → s'.signed m' (front ++ p ∷ []) ≡ true → Delivered g s' inv.left p m' front
  delivered_after p m' front follows here =
      let d = inv.delivered p m' front follows (signed_before m' (front ++ p ∷ []) here) in
      record {
        soon = let same = same_current in let soon = d.soon in omega arith;
        own = e.keeps p m' front (sound_follower g p follows) d.own;
        all = λ j follows_j stayed. e.keeps j m' (front ++ p ∷ []) (sound_follower g j follows_j) (d.all j follows_j stayed);
      }

  -- a switch that has stopped waiting takes nothing
  same_taken : (p : ℕ) → Sound g p → s.standing p ≢ Waiting → (m' : ℕ) (l : List ℕ) → s'.taken p m' l ≡ s.taken p m' l
  same_taken p sound out m' l =
      same_test (s'.taken p m' l) (s.taken p m' l)
      (λ here.
      ⊎_elim
      (λ before. before)
      (λ new. absurd (out (subst (λ p'. s.standing p' ≡ Waiting) (sym new.0) e.waits)))
      (e.takes p m' l sound here))
      (e.keeps p m' l sound)

  stands_after : (p : ℕ) → Follows g p → Stands g s' inv.left p
  stands_after p follows =
      let sound = sound_follower g p follows in
      stands_kept g s s' inv.left p e.still.closed (e.still.standing p sound) (same_taken p sound) (inv.stands p follows)

  led_after : g.sound g.lead ≡ true → (m' : ℕ) → s'.signed m' (g.lead ∷ []) ≡ true → (m' ≡ g.order) × ((p : ℕ) → Follows g p → s'.taken p g.order (g.lead ∷ []) ≡ true)
  led_after sound m' here =
      let l = inv.led sound m' (signed_before m' (g.lead ∷ []) here) in
      (l.0, (λ p follows. e.keeps p g.order (g.lead ∷ []) (sound_follower g p follows) (l.1 p follows)))

  begun_after : g.sound g.lead ≡ true → 1 ≤ current s' → s'.signed g.order (g.lead ∷ []) ≡ true
  begun_after sound some =
      let same = same_current in
      signed_after g.order (g.lead ∷ []) (inv.begun sound (omega arith))

  idle_after : g.sound g.lead ≡ true → (m' : ℕ) (l : List ℕ) → s'.taken g.lead m' l ≡ true → ⊥
  idle_after sound m' l here =
      ⊎_elim
      (λ before. inv.idle sound m' l before)
      (λ new. not_lead (sym new.0))
      (e.takes g.lead m' l (fair.leads, sound) here)

  pub lay_keeps : Invariant g s'
  lay_keeps =
      let closed = e.still.closed in
      record {
        left = inv.left;
        held = held_after;
        passed_on = passed_on_after;
        delivered = delivered_after;
        ledger = λ m' l here. inv.ledger m' l (signed_before m' l here);
        stands = stands_after;
        few_rounds = let few = inv.few_rounds in omega arith;
        room = λ on. let few = inv.room (sym e.still.listens ∙ on) in omega arith;
        led = led_after;
        begun = begun_after;
        lead_stands = λ sound. lead_stands_kept g s s' closed (e.still.standing g.lead (fair.leads, sound)) (inv.lead_stands sound);
        idle = idle_after;
        in_time = λ sound p follows waiting. let soon = inv.in_time sound p follows waiting in omega arith;
      }
