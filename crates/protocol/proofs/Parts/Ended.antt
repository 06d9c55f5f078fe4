-- Once the last round is closed nobody leads or waits; and a switch that has carried out an order is done with it after
-- the next close. Assumes nothing.
use Rattle.std.proofs.Common.{◌≡◌, ℕ, suc, ◌+◌, ◌<◌, ◌≤◌, true, ◌⊎◌, sym, ap, ◌∙◌, subst, inl, inr, ⊎_elim, arith}
use Rattle.std.proofs.lemmas.Bool.{cases_eq}
use Rattle.protocol.specs.declared.standings.Standing.TheVariants.{Done, Quit}
use Rattle.protocol.specs.Promises.{HasCarried}
use Rattle.protocol.specs.Rings.{Ring, Fair, Sound}
use Rattle.protocol.specs.Rounds.{Call, refused, sent, signed, laid, closed}
use Rattle.protocol.specs.Runs.{Calls, none, one_more}
use Rattle.protocol.specs.States.{State, Carried}
use Rattle.protocol.proofs.Invariant.{Invariant, Stands, waits, early, last, quit, LeadStands, leading, carrying, done}
use Rattle.protocol.proofs.Same.{kind}
use Rattle.protocol.proofs.Keeps.Moves.{next, goes_on}
use Rattle.protocol.proofs.Parts.Decided.{early_carried}
use Rattle.protocol.proofs.Parts.Stays.{carried_stays}

module _ (g : Ring) (fair : Fair g) (s : State) (inv : Invariant g s) (end : g.t + 1 ≤ s.closed) where
  follower_ended : (p : ℕ) → Stands g s inv.left p → HasCarried s p ⊎ (s.standing p ≡ Quit)
  follower_ended p (waits is stays few) = absurd (omega arith)
  follower_ended p (early m w is some few sole weighs enough) = inl (m, early_carried s p m _ _ is)
  follower_ended p (last w h is left at_end weighs heaviest) = inl (g.pick h, inl is)
  follower_ended p (quit is left at_end weighs) = inr is

  lead_ended : LeadStands g s → HasCarried s g.lead
  lead_ended (leading nothing is) = absurd (omega arith)
  lead_ended (carrying one is) = (g.order, inl is)
  lead_ended (done more is) = (g.order, inr is)

  pub all_ended : (p : ℕ) → Sound g p → HasCarried s p ⊎ (s.standing p ≡ Quit)
  all_ended p sound =
      ⊎_elim
      (λ lead. inl (subst (HasCarried s) (sym lead) (lead_ended (inv.lead_stands (subst (λ q. g.sound q ≡ true) lead sound.1)))))
      (λ other. follower_ended p (inv.stands p (sound.0, sound.1, other)))
      (cases_eq p g.lead)

-- a close makes done of what is carried
closed_done : (g : Ring) (s s' : State) → (call : Call g s s') → (p m : ℕ) → Sound g p → Carried (s.standing p) m → ((s'.closed ≡ s.closed) × (s'.standing p ≡ s.standing p)) ⊎ (s'.standing p ≡ Done m)
closed_done g s s' (refused e) p m sound carried = inl (ap (λ x. x.closed) e, ap (λ x. x.standing p) e)
closed_done g s s' (sent e) p m sound carried = inl (e.closed, e.standing p sound)
closed_done g s s' (signed m' names e) p m sound carried = inl (e.still.closed, e.still.standing p sound)
closed_done g s s' (laid q m' names e) p m sound carried = inl (e.still.closed, e.still.standing p sound)
closed_done g s s' (closed e) p m sound carried =
    let step = goes_on g s (suc s.closed) p (s.standing p) (s'.standing p) (e.standing p sound) in
    inr (⊎_elim (λ c. let k = ap kind c in step (omega arith) ∙ ap next c) (λ d. let k = ap kind d in step (omega arith) ∙ ap next d) carried)

pub done_later : (g : Ring) (s s' : State) → Calls g s s' → (p m : ℕ) → Sound g p → Carried (s.standing p) m → s.closed < s'.closed → s'.standing p ≡ Done m
done_later g s s' none p m sound carried later = absurd (omega arith)
done_later g s s'' (one_more {s'} calls call) p m sound carried later =
    ⊎_elim
    (λ same. let e = same.0 in same.1 ∙ done_later g s s' calls p m sound carried (omega arith))
    (λ is. is)
    (closed_done g s' s'' call p m sound (carried_stays g s s' calls p m sound carried))
