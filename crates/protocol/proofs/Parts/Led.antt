-- Under a sound lead nothing but its order is carried out, and no follower quits. Assumes nothing.
use Rattle.std.proofs.Common.{◌≡◌, ℕ, ◌+◌, ◌≤◌, true, sym, ap, subst, inl, inr, ⊎_elim, arith}
use Rattle.std.proofs.lemmas.Bool.{cases_eq}
use Rattle.counting.proofs.Crowds.{tally_one_less}
use Rattle.protocol.specs.Promises.{sound_count, HasCarried}
use Rattle.protocol.specs.Rings.{Ring, Fair, Sound, Follows}
use Rattle.protocol.specs.Rounds.{Weighs}
use Rattle.protocol.specs.States.{State, Carried}
use Rattle.protocol.proofs.Invariant.{Invariant, Stands, waits, early, last, quit, LeadStands, leading, carrying, done}
use Rattle.protocol.proofs.Same.{kind}
use Rattle.protocol.proofs.Parts.CarriedOrders.{carried_kind, same_order}
use Rattle.protocol.proofs.Parts.Decided.{carried_held, closed_current, early_carried}
use Rattle.protocol.proofs.Shown.SoundLead.{one_order, backed_by_all}

-- the lead carries out its own order, from the close of round 1 on
lead_carried : (g : Ring) (s : State) → LeadStands g s → (m : ℕ) → Carried (s.standing g.lead) m → (m ≡ g.order) × (1 ≤ s.closed)
lead_carried g s (leading none is) m carried = let k = ap kind is in let c = carried_kind (s.standing g.lead) m carried in absurd (omega arith)
lead_carried g s (carrying one is) m carried = (same_order (s.standing g.lead) m g.order carried (inl is), omega arith)
lead_carried g s (done more is) m carried = (same_order (s.standing g.lead) m g.order carried (inr is), omega arith)

lead_done : (g : Ring) (s : State) → LeadStands g s → 2 ≤ s.closed → Carried (s.standing g.lead) g.order
lead_done g s (leading none is) two = absurd (omega arith)
lead_done g s (carrying one is) two = absurd (omega arith)
lead_done g s (done more is) two = inr is

module _ (g : Ring) (fair : Fair g) (s : State) (inv : Invariant g s) (sound : g.sound g.lead ≡ true) where
  pub begun_once_carried : (m : ℕ) → Carried (s.standing g.lead) m → (m ≡ g.order) × (1 ≤ s.closed)
  begun_once_carried m carried = lead_carried g s (inv.lead_stands sound) m carried

  -- whatever a sound switch has carried out is the order of the lead
  pub order_of_lead : (p m : ℕ) → Sound g p → Carried (s.standing p) m → m ≡ g.order
  order_of_lead p m sound_p carried =
      ⊎_elim
      (λ lead. (begun_once_carried m (subst (λ q. Carried (s.standing q) m) lead carried)).0)
      (λ other.
      let follows : Follows g p = (sound_p.0, sound_p.1, other) in
      let chain = carried_held g fair s inv p m follows carried in
      one_order g fair s inv sound p m chain.0 follows chain.1)
      (cases_eq p g.lead)

  -- at the end a follower holds chains that bear the number of sound switches, so it does not quit
  none_quits : (p : ℕ) → Follows g p → inv.left p ≡ g.t + 1 → s.closed ≡ g.t + 1 → Weighs g s p g.order 0 → ⊥
  none_quits p follows left end weighs =
      let least = fair.least in
      let now = closed_current s in
      let some = tally_one_less g.sound g.n g.lead fair.leads sound in
      let borne = backed_by_all g fair s inv sound (omega arith) p weighs.S follows (inr (omega arith)) weighs.seconds in
      let most = weighs.most (sound_count g) borne in
      omega arith

  follower_carries : (p : ℕ) → Follows g p → Stands g s inv.left p → (s.closed ≤ g.t → inv.left p ≡ 0 → ⊥) → HasCarried s p
  follower_carries p follows (waits is stays few) not_waits = absurd (not_waits few stays)
  follower_carries p follows (early m w is some few sole weighs enough) not_waits = (m, early_carried s p m _ _ is)
  follower_carries p follows (last w h is left end weighs heaviest) not_waits = (g.pick h, inl is)
  follower_carries p follows (quit is left end weighs) not_waits = absurd (none_quits p follows left end (weighs g.order))

  -- so once no follower waits, all have carried out the order of the lead
  pub all_carry : 2 ≤ s.closed → ((p : ℕ) → Follows g p → s.closed ≤ g.t → inv.left p ≡ 0 → ⊥) → (p : ℕ) → Sound g p → Carried (s.standing p) g.order
  all_carry two not_waits p sound_p =
      ⊎_elim
      (λ lead. subst (λ q. Carried (s.standing q) g.order) (sym lead) (lead_done g s (inv.lead_stands sound) two))
      (λ other.
      let follows : Follows g p = (sound_p.0, sound_p.1, other) in
      let has = follower_carries p follows (inv.stands p follows) (not_waits p follows) in
      subst (Carried (s.standing p)) (order_of_lead p has.0 sound_p has.1) has.1)
      (cases_eq p g.lead)
