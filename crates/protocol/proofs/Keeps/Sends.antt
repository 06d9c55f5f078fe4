-- A send keeps the invariant: every waiting switch takes what the sound ones pass on. Assumes nothing.
use Rattle.std.proofs.Common.{◌≡◌, ℕ, suc, ◌+◌, ◌<◌, ◌≤◌, true, false, ◌≢◌, List, [], ◌∷◌, ◌++◌, length, take, sym, refl, ap, ◌∙◌, subst, inl, inr, ⊎_elim, arith}
use Rattle.std.proofs.lemmas.List.{take_all}
use Rattle.std.proofs.lemmas.Bool.{cases_lt}
use Rattle.counting.specs.Lists.{has}
use Rattle.counting.proofs.Splits.{length_push}
use Rattle.chain.specs.Chains.{Proper}
use Rattle.protocol.specs.declared.standings.Standing.TheVariants.{Waiting}
use Rattle.protocol.specs.Rings.{Ring, Fair, Sound, Follows}
use Rattle.protocol.specs.Rounds.{Passed, first, further, Sent}
use Rattle.protocol.specs.States.{State}
use Rattle.protocol.proofs.Invariant.{Invariant, Held, Delivered, Stands, Stayed, current}
use Rattle.protocol.proofs.Same.{same_test}
use Rattle.protocol.proofs.Keeps.Passes.{passed_proper, passed_shown, passed_long, passed_own, passed_alone}
use Rattle.protocol.proofs.Keeps.Stands.{current_listens, current_rests, sound_follower, left_low, waits_if_zero, zero_if_waits, sends_on, stands_kept, lead_order, lead_acts, lead_leads, lead_stands_kept}

module _ (g : Ring) (fair : Fair g) (s s' : State) (inv : Invariant g s) (e : Sent g s s') where
  now : current s ≡ s.closed
  now = current_rests s e.rested

  next : current s' ≡ suc s.closed
  next = current_listens s' e.listens ∙ ap suc e.closed

  room : suc s.closed ≤ g.t + 1
  room = let r = e.room in omega arith

  kept_signed : (m : ℕ) (names : List ℕ) → s.signed m names ≡ true → s'.signed m names ≡ true
  kept_signed m names old = e.keeps_signed m names (inl old)

  kept_taken : (p m : ℕ) (names : List ℕ) → Follows g p → s.taken p m names ≡ true → s'.taken p m names ≡ true
  kept_taken p m names follows old = e.keeps_taken p m names (sound_follower g p follows) (inl old)

  -- a follower that has not stopped waiting takes what is passed on
  taken_by_waiting : (p m : ℕ) (names : List ℕ) → Follows g p → inv.left p ≡ 0 → Passed g s (suc s.closed) m names → s'.taken p m names ≡ true
  taken_by_waiting p m names follows zero_left passed = e.keeps_taken p m names (sound_follower g p follows) (inr (waits_if_zero g s inv.left p (inv.stands p follows) zero_left, passed))

  -- each front of a chain that is passed on is signed now
  all_shown : (m : ℕ) (names : List ℕ) → Passed g s (suc s.closed) m names → (k : ℕ) → k < length names → s'.signed m (take (suc k) names) ≡ true
  all_shown m names passed k low =
      ⊎_elim
      (λ part. kept_signed m _ (passed_shown g fair s inv (suc s.closed) m names passed k part))
      (λ whole. subst (λ z. s'.signed m z ≡ true) (sym (take_all (suc k) names whole)) (e.keeps_signed m names (inr passed)))
      (cases_lt (suc k) (length names))

  held_next : (p m : ℕ) (names : List ℕ) → Follows g p → s'.taken p m names ≡ true → Held g s' inv.left p m names
  held_next p m names follows here =
      ⊎_elim
      (λ old.
      let h = inv.held p m names follows old in
      let soon = h.soon in
      record { proper = h.proper; coded = h.coded; shown = λ k low. kept_signed m _ (h.shown k low); soon = omega (arith, now, next); stayed = h.stayed })
      (λ new.
      let good = passed_proper g fair s inv (suc s.closed) m names room new.1 in
      let long = passed_long g s (suc s.closed) m names new.1 in
      record { proper = good.0; coded = good.1; shown = all_shown m names new.1; soon = omega (arith, next); stayed = inl (zero_if_waits g s inv.left p (inv.stands p follows) new.0) })
      (e.takes p m names (sound_follower g p follows) here)

  -- what a follower held before and has not passed on yet, it passes on now
  old_passed_on : (p m : ℕ) (names : List ℕ) → Follows g p → s.taken p m names ≡ true → has p names ≡ false → s'.signed m (names ++ p ∷ []) ≡ true
  old_passed_on p m names follows old new =
      let h = inv.held p m names follows old in
      ⊎_elim
      (λ before. kept_signed m _ (inv.passed_on p m names follows old new (omega (arith, now))))
      (λ at_close.
      let soon = h.soon in
      let some = ap length h.proper.split in
      let long : length names ≡ s.closed = omega (arith, now) in
      let stayed : Stayed inv.left p s.closed = subst (Stayed inv.left p) long h.stayed in
      let sends = sends_on g s inv.left p (inv.stands p follows) (omega (arith, room)) stayed in
      e.keeps_signed m _ (inr (further p names (omega arith) (sound_follower g p follows) sends old (ap suc long) new refl)))
      (cases_lt (length names) s.closed)

  passed_on_next : (p m : ℕ) (names : List ℕ) → Follows g p → s'.taken p m names ≡ true → has p names ≡ false → length names < current s' → s'.signed m (names ++ p ∷ []) ≡ true
  passed_on_next p m names follows here new short =
      ⊎_elim
      (λ old. old_passed_on p m names follows old new)
      (λ fresh. let long = passed_long g s (suc s.closed) m names fresh.1 in absurd (omega (arith, next)))
      (e.takes p m names (sound_follower g p follows) here)

  delivered_next : (q m : ℕ) (front : List ℕ) → Follows g q → s'.signed m (front ++ q ∷ []) ≡ true → Delivered g s' inv.left q m front
  delivered_next q m front follows here =
      ⊎_elim
      (λ old.
      let d = inv.delivered q m front follows old in
      let soon = d.soon in
      record { soon = omega (arith, now, next); own = kept_taken q m front follows d.own; all = λ p follows_p stayed. kept_taken p m _ follows_p (d.all p follows_p stayed) })
      (λ new.
      let long = passed_long g s (suc s.closed) m _ new in
      let push = length_push front q in
      record {
        soon = omega (arith, next);
        own = kept_taken q m front follows (passed_own g s (suc s.closed) m q front follows new);
        all = λ p follows_p stayed. let low = left_low g s inv.left p (inv.stands p follows_p) in taken_by_waiting p m _ follows_p (omega arith) new;
      })
      (e.signs m (front ++ q ∷ []) here)

  ledger_next : (m : ℕ) (names : List ℕ) → s'.signed m names ≡ true → Proper g.n g.t g.lead names × (m < g.codes)
  ledger_next m names here = ⊎_elim (λ old. inv.ledger m names old) (λ new. passed_proper g fair s inv (suc s.closed) m names room new) (e.signs m names here)

  -- a switch that does not wait takes nothing new
  takes_none : (p : ℕ) → Sound g p → s.standing p ≢ Waiting → (m : ℕ) (names : List ℕ) → s'.taken p m names ≡ s.taken p m names
  takes_none p sound gone m names = same_test _ _ (λ here. ⊎_elim (λ old. old) (λ new. absurd (gone new.0)) (e.takes p m names sound here)) (λ old. e.keeps_taken p m names sound (inl old))

  stands_next : (p : ℕ) → Follows g p → Stands g s' inv.left p
  stands_next p follows =
      let sound = sound_follower g p follows in
      stands_kept g s s' inv.left p e.closed (e.standing p sound) (takes_none p sound) (inv.stands p follows)

  led_next : g.sound g.lead ≡ true → (m : ℕ) → s'.signed m (g.lead ∷ []) ≡ true → (m ≡ g.order) × ((p : ℕ) → Follows g p → s'.taken p g.order (g.lead ∷ []) ≡ true)
  led_next sound m here =
      ⊎_elim
      (λ old. let l = inv.led sound m old in (l.0, λ p follows. kept_taken p g.order _ follows (l.1 p follows)))
      (λ new.
      let alone = passed_alone g s (suc s.closed) m new in
      let one = alone.0 in
      let same = lead_order g s (inv.lead_stands sound) m alone.1 in
      let passed = subst (λ z. Passed g s (suc s.closed) z (g.lead ∷ [])) same new in
      (same, λ p follows. let low = left_low g s inv.left p (inv.stands p follows) in taken_by_waiting p g.order _ follows (omega arith) passed))
      (e.signs m (g.lead ∷ []) here)

  begun_next : g.sound g.lead ≡ true → s'.signed g.order (g.lead ∷ []) ≡ true
  begun_next sound =
      ⊎_elim
      (λ later. kept_signed g.order _ (inv.begun sound (omega (arith, now))))
      (λ none. e.keeps_signed g.order _ (inr (first (omega arith) sound (lead_leads g s (inv.lead_stands sound) (omega arith)) refl)))
      (cases_lt 0 s.closed)

  idle_next : g.sound g.lead ≡ true → (m : ℕ) (names : List ℕ) → s'.taken g.lead m names ≡ true → ⊥
  idle_next sound m names here = inv.idle sound m names (sym (takes_none g.lead (fair.leads, sound) (lead_acts g s (inv.lead_stands sound)) m names) ∙ here)

  kept : Invariant g s'
  kept =
      let closed = e.closed in
      let few = inv.few_rounds in
      record {
        left = inv.left;
        held = held_next;
        passed_on = passed_on_next;
        delivered = delivered_next;
        ledger = ledger_next;
        stands = stands_next;
        few_rounds = omega arith;
        room = λ _. omega (arith, room);
        led = led_next;
        begun = λ sound _. begun_next sound;
        lead_stands = λ sound. lead_stands_kept g s s' closed (e.standing g.lead (fair.leads, sound)) (inv.lead_stands sound);
        idle = idle_next;
        in_time = λ sound p follows waiting. let time = inv.in_time sound p follows waiting in omega arith;
      }

pub send_keeps : (g : Ring) → Fair g → (s s' : State) → Invariant g s → Sent g s s' → Invariant g s'
send_keeps = kept
