-- How a follower and a sound lead stand after a close. Assumes nothing.
use Rattle.std.proofs.Common.{◌≡◌, ℕ, suc, ◌+◌, ◌≤◌, true, ◌≢◌, List, sym, ap, ◌∙◌, inl, inr, ⊎_elim, arith}
use Rattle.protocol.specs.declared.standings.Standing.TheVariants.{Waiting, Done}
use Rattle.protocol.specs.Rings.{Ring, Fair, Follows}
use Rattle.protocol.specs.Rounds.{Sole, Weighs, Closes, led, ends, done, quit, early, waits, quits, picks, Closed}
use Rattle.protocol.specs.States.{State, Carried}
use Rattle.protocol.proofs.Invariant.{Stands, LeadStands, Invariant}
use Rattle.protocol.proofs.Same.{kind, sole_same, weighs_same}
use Rattle.protocol.proofs.Keeps.Leaving.{left_after, left_waits, left_now, gone_before}
use Rattle.protocol.proofs.Keeps.Moves.{next, goes_on}
use Rattle.protocol.proofs.Keeps.Stands.{sound_follower}

module _ (g : Ring) (s s' : State) (inv : Invariant g s) (e : Closed g s s') (p : ℕ) (follows : Follows g p) where
  same_taken : (m : ℕ) (names : List ℕ) → s'.taken p m names ≡ s.taken p m names
  same_taken m names = e.takes p m names (sound_follower g p follows)

  same_sole : (m : ℕ) → Sole s p m → Sole s' p m
  same_sole = sole_same s s' p same_taken

  same_weighs : (m w : ℕ) → Weighs g s p m w → Weighs g s' p m w
  same_weighs = weighs_same s s' p same_taken g

  -- a follower that waited
  from_waiting : s.standing p ≡ Waiting → inv.left p ≡ 0 → Closes g s (suc s.closed) p (s.standing p) (s'.standing p) → Stands g s' (left_after s s' inv.left) p
  from_waiting waiting zero_left (led m b) = let k = ap kind (sym waiting ∙ b.0) in absurd (omega arith)
  from_waiting waiting zero_left (ends m b) = let k = ap kind (sym waiting ∙ b.0) in absurd (omega arith)
  from_waiting waiting zero_left (done m b) = let k = ap kind (sym waiting ∙ b.0) in absurd (omega arith)
  from_waiting waiting zero_left (quit b) = let k = ap kind (sym waiting ∙ b.0) in absurd (omega arith)
  from_waiting waiting zero_left (early m w b soon sole weighs enough) =
      let k = ap kind b.1 in
      let now = left_now s s' inv.left p (omega arith) zero_left in
      let more = e.one_more in
      Stands.early m w (inl (b.1, now ∙ sym more)) (omega arith) (omega arith) (same_sole m sole) (same_weighs m w weighs) (omega arith)
  from_waiting waiting zero_left (waits b soon light) =
      let more = e.one_more in
      Stands.waits b.1 (left_waits s s' inv.left p (ap kind b.1)) (omega arith)
  from_waiting waiting zero_left (quits b at_last none) =
      let k = ap kind b.1 in
      Stands.quit b.1 (left_now s s' inv.left p (omega arith) zero_left ∙ at_last) (e.one_more ∙ at_last) (λ m. same_weighs m 0 (none m))
  from_waiting waiting zero_left (picks w h b at_last weighs heaviest) =
      let k = ap kind b.1 in
      Stands.last w h b.1 (left_now s s' inv.left p (omega arith) zero_left ∙ at_last) (e.one_more ∙ at_last) (λ m. same_weighs m (w m) (weighs m)) heaviest

  -- a follower that carries out an order, or is done with it, is done with it after the close
  done_after : (m : ℕ) → Carried (s.standing p) m → s'.standing p ≡ Done m
  done_after m carried =
      let step = goes_on g s (suc s.closed) p (s.standing p) (s'.standing p) (e.standing p (sound_follower g p follows)) in
      ⊎_elim
      (λ carries. let k = ap kind carries in step (omega arith) ∙ ap next carries)
      (λ ended. let k = ap kind ended in step (omega arith) ∙ ap next ended)
      carried

  from_early : (m w : ℕ) → Carried (s.standing p) m → 1 ≤ inv.left p → inv.left p ≤ s.closed → inv.left p ≤ g.t → Sole s p m → Weighs g s p m w → g.t + 3 ≤ w + inv.left p → Stands g s' (left_after s s' inv.left) p
  from_early m w carried some low few sole weighs enough =
      let same = gone_before g s s' inv e p follows (omega arith) in
      let more = e.one_more in
      Stands.early m w (inr (done_after m carried, omega arith)) (omega arith) (omega arith) (same_sole m sole) (same_weighs m w weighs) (omega arith)

  follower_after : Stands g s inv.left p → Stands g s' (left_after s s' inv.left) p
  follower_after (Stands.waits waiting zero_left few) = from_waiting waiting zero_left (e.standing p (sound_follower g p follows))
  follower_after (Stands.early m w (inl (carry, now)) some few sole weighs enough) = from_early m w (inl carry) some (omega arith) few sole weighs enough
  follower_after (Stands.early m w (inr (stays, past)) some few sole weighs enough) = from_early m w (inr stays) some (omega arith) few sole weighs enough
  follower_after (Stands.last w h carry at_last closed weighs heaviest) = let room = inv.room e.listens in absurd (omega arith)
  follower_after (Stands.quit standing at_last closed none) = let room = inv.room e.listens in absurd (omega arith)

  pub stands_after : Stands g s' (left_after s s' inv.left) p
  stands_after = follower_after (inv.stands p follows)

module _ (g : Ring) (fair : Fair g) (s s' : State) (e : Closed g s s') (sound : g.sound g.lead ≡ true) where
  lead_next : kind (s.standing g.lead) ≢ 1 → s'.standing g.lead ≡ next (s.standing g.lead)
  lead_next = goes_on g s (suc s.closed) g.lead (s.standing g.lead) (s'.standing g.lead) (e.standing g.lead (fair.leads, sound))

  pub lead_stands_after : LeadStands g s → LeadStands g s'
  lead_stands_after (LeadStands.leading closed standing) = let k = ap kind standing in LeadStands.carrying (let more = e.one_more in omega arith) (lead_next (omega arith) ∙ ap next standing)
  lead_stands_after (LeadStands.carrying closed standing) = let k = ap kind standing in LeadStands.done (let more = e.one_more in omega arith) (lead_next (omega arith) ∙ ap next standing)
  lead_stands_after (LeadStands.done closed standing) = let k = ap kind standing in LeadStands.done (let more = e.one_more in omega arith) (lead_next (omega arith) ∙ ap next standing)
