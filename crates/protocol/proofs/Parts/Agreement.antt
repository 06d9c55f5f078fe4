-- No two sound switches carry out two orders. Assumes nothing.
use Rattle.std.proofs.Common.{◌≡◌, ℕ, ◌+◌, ◌-◌, ◌≤◌, Bool, true, false, List, sym, ap, ◌∙◌, inr, ⊎_elim, arith}
use Rattle.std.proofs.lemmas.Bool.{cases_Bool, cases_lt}
use Rattle.protocol.specs.Rings.{Ring, Fair, Sound, Follows}
use Rattle.protocol.specs.Rounds.{Sole, Weighs, Heaviest}
use Rattle.protocol.specs.States.{State, Carried}
use Rattle.protocol.proofs.Invariant.{Invariant, Stayed}
use Rattle.protocol.proofs.Parts.Decided.{Decided, ahead, at_end, decided, weighty, lighter, closed_current}
use Rattle.protocol.proofs.Parts.LastWeights.{all_follow, heaviest_same, no_lighter}
use Rattle.protocol.proofs.Parts.Led.{order_of_lead}
use Rattle.protocol.proofs.Shown.Conspicuous.{conspicuous}

module _ (g : Ring) (fair : Fair g) (s : State) (inv : Invariant g s) where
  -- a weight that is high enough for round r is seen by whoever waited in it
  seen : (p q m r w : ℕ) → Follows g p → Follows g q → 2 ≤ r → r ≤ g.t → r ≤ s.closed → Stayed inv.left q r → Weighs g s p m w → g.t + 3 ≤ w + r → (names : List ℕ) × (s.taken q m names ≡ true)
  seen p q m r w follows_p follows_q two few before stayed weighs enough =
      let now = closed_current s in
      let borne = weighty g.n g.t (s.taken p m) w weighs (omega arith) in
      let less = lighter g.n g.t (s.taken p m) weighs.S w (g.t + 3 - r) (omega arith) borne in
      conspicuous g fair s inv p q m r weighs.S follows_p follows_q two (omega arith) (omega arith) stayed weighs.seconds less

  -- nobody carries out an order at the close of round 1
  not_first : (p m w : ℕ) → Follows g p → 1 ≤ inv.left p → inv.left p ≤ g.t → Weighs g s p m w → g.t + 3 ≤ w + inv.left p → 2 ≤ inv.left p
  not_first p m w follows some few weighs enough =
      let borne = weighty g.n g.t (s.taken p m) w weighs (omega arith) in
      let long = borne.long in
      ⊎_elim (λ none. absurd (omega arith)) (λ stayed. omega arith) (inv.held p m borne.names follows borne.here).stayed

  -- of two that carried out before the end, the later one saw the order of the other
  both_ahead : (p q m m' w : ℕ) → Follows g p → Follows g q → 1 ≤ inv.left p → inv.left p ≤ g.t → inv.left p ≤ s.closed → Weighs g s p m w → g.t + 3 ≤ w + inv.left p → Sole s q m' → inv.left p ≤ inv.left q → m ≡ m'
  both_ahead p q m m' w follows_p follows_q some few before weighs enough sole later =
      let two = not_first p m w follows_p some few weighs enough in
      let chain = seen p q m (inv.left p) w follows_p follows_q two few before (inr later) weighs enough in
      sole.only m chain.0 chain.1

  module _ (faulty : g.sound g.lead ≡ false) where
    -- what was picked at the end was seen by one that carried out before
    ahead_and_end : (p q m m' w : ℕ) (w' : ℕ → ℕ) (h : ℕ → Bool) → Follows g p → Follows g q → 1 ≤ inv.left p → inv.left p ≤ g.t → inv.left p ≤ s.closed → Sole s p m → Weighs g s p m w → g.t + 3 ≤ w + inv.left p → h m' ≡ true → inv.left q ≡ g.t + 1 → s.closed ≡ g.t + 1 → ((x : ℕ) → Weighs g s q x (w' x)) → Heaviest w' h → m ≡ m'
    ahead_and_end p q m m' w w' h follows_p follows_q some few before sole weighs enough in_it left end weighs' heaviest =
        let two = not_first p m w follows_p some few weighs enough in
        let no_less = no_lighter g fair s inv faulty (omega arith) p q m w (w' m) follows_p follows_q left weighs (weighs' m) in
        let most = heaviest.each m' m in_it in
        let chain = seen q p m' (inv.left p) (w' m') follows_q follows_p two few before (inr (omega arith)) (weighs' m') (omega arith) in
        sym (sole.only m' chain.0 chain.1)

    agree_decided : (p q m m' : ℕ) → Follows g p → Follows g q → Decided g s inv.left p m → Decided g s inv.left q m' → m ≡ m'
    agree_decided p q m m' follows_p follows_q (ahead w some few before sole weighs enough) (ahead w' some' few' before' sole' weighs' enough') =
        ⊎_elim
        (λ less. both_ahead p q m m' w follows_p follows_q some few before weighs enough sole' (omega arith))
        (λ more. sym (both_ahead q p m' m w' follows_q follows_p some' few' before' weighs' enough' sole more))
        (cases_lt (inv.left p) (inv.left q))
    agree_decided p q m m' follows_p follows_q (ahead w some few before sole weighs enough) (at_end w' h is in_it left end weighs' heaviest) =
        ahead_and_end p q m m' w w' h follows_p follows_q some few before sole weighs enough in_it left end weighs' heaviest
    agree_decided p q m m' follows_p follows_q (at_end w h is in_it left end weighs heaviest) (ahead w' some few before sole weighs' enough) =
        sym (ahead_and_end q p m' m w' w h follows_q follows_p some few before sole weighs' enough in_it left end weighs heaviest)
    agree_decided p q m m' follows_p follows_q (at_end w h is in_it left end weighs heaviest) (at_end w' h' is' in_it' left' end' weighs' heaviest') =
        is ∙ ap g.pick (heaviest_same w w' h h' same heaviest heaviest') ∙ sym is'
      where
        same : (x : ℕ) → w x ≡ w' x
        same x =
            let up = no_lighter g fair s inv faulty (omega arith) p q x (w x) (w' x) follows_p follows_q left' (weighs x) (weighs' x) in
            let down = no_lighter g fair s inv faulty (omega arith) q p x (w' x) (w x) follows_q follows_p left (weighs' x) (weighs x) in
            omega arith

  pub agree : (p q m m' : ℕ) → Sound g p → Sound g q → Carried (s.standing p) m → Carried (s.standing q) m' → m ≡ m'
  agree p q m m' sound_p sound_q carried carried' =
      ⊎_elim
      (λ sound. order_of_lead g fair s inv sound p m sound_p carried ∙ sym (order_of_lead g fair s inv sound q m' sound_q carried'))
      (λ faulty.
      let follows_p = all_follow g faulty p sound_p in
      let follows_q = all_follow g faulty q sound_q in
      agree_decided faulty p q m m' follows_p follows_q (decided g fair s inv p m follows_p carried) (decided g fair s inv q m' follows_q carried'))
      (cases_Bool (g.sound g.lead))
