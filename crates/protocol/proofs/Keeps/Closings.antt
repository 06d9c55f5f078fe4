-- A close keeps the invariant: the chains stay, and the rounds at which switches stop waiting are noted. Assumes nothing.
use Rattle.std.proofs.Common.{◌≡◌, ℕ, suc, ◌<◌, ◌≤◌, true, false, List, [], ◌∷◌, ◌++◌, length, take, sym, ◌∙◌, arith}
use Rattle.std.proofs.lemmas.Bool.{both_ways}
use Rattle.counting.specs.Lists.{has}
use Rattle.protocol.specs.Rings.{Ring, Fair, Follows}
use Rattle.protocol.specs.Rounds.{Closed}
use Rattle.protocol.specs.States.{State}
use Rattle.protocol.proofs.Invariant.{current, Held, Delivered, Invariant}
use Rattle.protocol.proofs.Keeps.ClosingStands.{stands_after, lead_stands_after}
use Rattle.protocol.proofs.Keeps.ClosingTime.{in_time_after}
use Rattle.protocol.proofs.Keeps.Leaving.{left_after, stayed_before, stayed_after}
use Rattle.protocol.proofs.Keeps.Stands.{sound_follower, current_listens, current_rests}

module _ (g : Ring) (fair : Fair g) (s s' : State) (inv : Invariant g s) (e : Closed g s s') where
  now : current s ≡ suc s.closed
  now = current_listens s e.listens

  same_current : current s' ≡ current s
  same_current = current_rests s' e.rests ∙ e.one_more ∙ sym now

  signed_after : (m : ℕ) (names : List ℕ) → s.signed m names ≡ true → s'.signed m names ≡ true
  signed_after m names here = e.signs m names ∙ here

  signed_before : (m : ℕ) (names : List ℕ) → s'.signed m names ≡ true → s.signed m names ≡ true
  signed_before m names here = sym (e.signs m names) ∙ here

  taken_after : (p m : ℕ) (names : List ℕ) → Follows g p → s.taken p m names ≡ true → s'.taken p m names ≡ true
  taken_after p m names follows here = e.takes p m names (sound_follower g p follows) ∙ here

  taken_before : (p m : ℕ) (names : List ℕ) → Follows g p → s'.taken p m names ≡ true → s.taken p m names ≡ true
  taken_before p m names follows here = sym (e.takes p m names (sound_follower g p follows)) ∙ here

  held_after : (p m : ℕ) (names : List ℕ) → Follows g p → s'.taken p m names ≡ true → Held g s' (left_after s s' inv.left) p m names
  held_after p m names follows here =
      let h = inv.held p m names follows (taken_before p m names follows here) in
      let soon = h.soon in
      let round = now in
      let same = same_current in
      record {
        proper = h.proper;
        coded = h.coded;
        shown = λ k low. signed_after m (take (suc k) names) (h.shown k low);
        soon = omega arith;
        stayed = stayed_after g s s' inv e p follows (length names) (omega arith) h.stayed;
      }

  passed_on_after : (p m : ℕ) (names : List ℕ) → Follows g p → s'.taken p m names ≡ true → has p names ≡ false → length names < current s' → s'.signed m (names ++ p ∷ []) ≡ true
  passed_on_after p m names follows here out short =
      let same = same_current in
      signed_after m (names ++ p ∷ []) (inv.passed_on p m names follows (taken_before p m names follows here) out (omega arith))

  delivered_after : (q m : ℕ) (front : List ℕ) → Follows g q → s'.signed m (front ++ q ∷ []) ≡ true → Delivered g s' (left_after s s' inv.left) q m front
  delivered_after q m front follows here =
      let d = inv.delivered q m front follows (signed_before m (front ++ q ∷ []) here) in
      let soon = d.soon in
      let same = same_current in
      record {
        soon = omega arith;
        own = taken_after q m front follows d.own;
        all = λ p follows_p stayed. taken_after p m (front ++ q ∷ []) follows_p (d.all p follows_p (stayed_before g s s' inv e p follows_p (suc (length front)) stayed));
      }

  led_after : g.sound g.lead ≡ true → (m : ℕ) → s'.signed m (g.lead ∷ []) ≡ true → (m ≡ g.order) × ((p : ℕ) → Follows g p → s'.taken p g.order (g.lead ∷ []) ≡ true)
  led_after sound m here =
      let l = inv.led sound m (signed_before m (g.lead ∷ []) here) in
      (l.0, (λ p follows. taken_after p g.order (g.lead ∷ []) follows (l.1 p follows)))

  begun_after : g.sound g.lead ≡ true → 1 ≤ current s' → s'.signed g.order (g.lead ∷ []) ≡ true
  begun_after sound some =
      let same = same_current in
      signed_after g.order (g.lead ∷ []) (inv.begun sound (omega arith))

  idle_after : g.sound g.lead ≡ true → (m : ℕ) (names : List ℕ) → s'.taken g.lead m names ≡ true → ⊥
  idle_after sound m names here = inv.idle sound m names (sym (e.takes g.lead m names (fair.leads, sound)) ∙ here)

  pub close_keeps : Invariant g s'
  close_keeps =
      record {
        left = left_after s s' inv.left;
        held = held_after;
        passed_on = passed_on_after;
        delivered = delivered_after;
        ledger = λ m names here. inv.ledger m names (signed_before m names here);
        stands = λ p follows. stands_after g s s' inv e p follows;
        few_rounds = let room = inv.room e.listens in let more = e.one_more in omega arith;
        room = λ on. absurd (both_ways s'.listening e.rests on);
        led = led_after;
        begun = begun_after;
        lead_stands = λ sound. lead_stands_after g fair s s' e sound (inv.lead_stands sound);
        idle = idle_after;
        in_time = λ sound p follows none. in_time_after g fair s s' inv e sound p follows none;
      }
