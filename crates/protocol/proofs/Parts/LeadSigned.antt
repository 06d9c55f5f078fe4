-- Nothing is carried out that the lead has not signed. Assumes nothing.
use Rattle.std.proofs.Common.{◌≡◌, ℕ, suc, true, ◌⊎◌, List, [], ◌∷◌, length, take, sym, ap, ◌∙◌, subst, inl, inr, ⊎_elim, arith}
use Rattle.std.proofs.lemmas.Bool.{cases_eq, both_ways}
use Rattle.counting.proofs.Splits.{last_same}
use Rattle.protocol.specs.declared.standings.Standing.TheVariants.{Leading}
use Rattle.protocol.specs.Rings.{Ring, Fair, Sound, Follows}
use Rattle.protocol.specs.Rounds.{Opened, Passed, first, further, Call, refused, sent, signed, laid, closed}
use Rattle.protocol.specs.Runs.{Calls, none, one_more, SignsAlone, LeadSigned}
use Rattle.protocol.specs.States.{State, Carried}
use Rattle.protocol.proofs.Invariant.{Invariant, LeadStands, leading, carrying, done}
use Rattle.protocol.proofs.Same.{kind, code}
use Rattle.protocol.proofs.Keeps.Kept.{run_keeps}
use Rattle.protocol.proofs.Parts.Decided.{carried_held, closed_current}
use Rattle.protocol.proofs.Parts.Led.{begun_once_carried}

-- a lead that leads has its order to give, and no round is closed
still_leading : (g : Ring) (s : State) (m : ℕ) → LeadStands g s → s.standing g.lead ≡ Leading m → (s.closed ≡ 0) × (m ≡ g.order)
still_leading g s m (leading nothing is) leads = (nothing, ap code (sym leads ∙ is))
still_leading g s m (carrying one is) leads = let k = ap kind (sym leads ∙ is) in absurd (omega arith)
still_leading g s m (done more is) leads = let k = ap kind (sym leads ∙ is) in absurd (omega arith)

-- a send passes on the name of the lead alone in round 1 only
passed_alone : (g : Ring) (s : State) (m : ℕ) → Invariant g s → Passed g s (suc s.closed) m (g.lead ∷ []) → (g.sound g.lead ≡ true) × (s.closed ≡ 0) × (m ≡ g.order)
passed_alone g s m inv (first one sound leads is) = let still = still_leading g s m (inv.lead_stands sound) leads in (sound, still.0, still.1)
passed_alone g s m inv (further p front two sound sends here long new is) =
    let short = ap length (last_same [] front g.lead p is).0 in
    absurd (omega arith)

-- a chain of the lead alone was signed before a call, or is signed in it
signed_before : (g : Ring) (s s' : State) → Invariant g s → (call : Call g s s') → (m : ℕ) → s'.signed m (g.lead ∷ []) ≡ true → (s.signed m (g.lead ∷ []) ≡ true) ⊎ SignsAlone g call m
signed_before g s s' inv (refused e) m on = inl (subst (λ x. x.signed m (g.lead ∷ []) ≡ true) e on)
signed_before g s s' inv (sent e) m on = ⊎_elim (λ old. inl old) (λ passed. inr (passed_alone g s m inv passed)) (e.signs m (g.lead ∷ []) on)
signed_before g s s' inv (signed m' names e) m on = ⊎_elim (λ old. inl old) (λ new. inr (sym new.1, new.0)) (e.signs m (g.lead ∷ []) on)
signed_before g s s' inv (laid q m' names e) m on = inl (sym (e.signs m (g.lead ∷ [])) ∙ on)
signed_before g s s' inv (closed e) m on = inl (sym (e.signs m (g.lead ∷ [])) ∙ on)

pub lead_signed : (g : Ring) → Fair g → (o s : State) → Opened g o → (calls : Calls g o s) → (m : ℕ) → s.signed m (g.lead ∷ []) ≡ true → LeadSigned g calls m
lead_signed g fair o s opened none m on = both_ways (o.signed m (g.lead ∷ [])) (opened.nothing_signed m (g.lead ∷ [])) on
lead_signed g fair o s opened (one_more {s'} calls call) m on =
    ⊎_elim
    (λ before. inl (lead_signed g fair o s' opened calls m before))
    (λ now. inr now)
    (signed_before g s' s (run_keeps g fair o s' opened calls) call m on)

module _ (g : Ring) (fair : Fair g) (s : State) (inv : Invariant g s) where
  -- of every chain that a follower holds, the first name is the lead's, signed
  held_signed : (p m : ℕ) (names : List ℕ) → Follows g p → s.taken p m names ≡ true → s.signed m (g.lead ∷ []) ≡ true
  held_signed p m names follows here =
      let held = inv.held p m names follows here in
      let split = held.proper.split in
      let long = ap length split in
      subst (λ l. s.signed m l ≡ true) (ap (take 1) split) (held.shown 0 (omega arith))

  -- what was carried out is signed by the lead alone
  pub carried_signed : (p m : ℕ) → Sound g p → Carried (s.standing p) m → s.signed m (g.lead ∷ []) ≡ true
  carried_signed p m sound carried =
      ⊎_elim
      (λ lead.
      let sound_lead = subst (λ q. g.sound q ≡ true) lead sound.1 in
      let begun = begun_once_carried g fair s inv sound_lead m (subst (λ q. Carried (s.standing q) m) lead carried) in
      let later = begun.1 in
      let now = closed_current s in
      subst (λ x. s.signed x (g.lead ∷ []) ≡ true) (sym begun.0) (inv.begun sound_lead (omega arith)))
      (λ other.
      let follows : Follows g p = (sound.0, sound.1, other) in
      let chain = carried_held g fair s inv p m follows carried in
      held_signed p m chain.0 follows chain.1)
      (cases_eq p g.lead)
