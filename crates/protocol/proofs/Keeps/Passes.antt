-- What is known of the chains that a send signs: they are proper, of the send's round, and the fronts of each are signed already.
-- Assumes nothing.
use Rattle.std.proofs.Common.{◌≡◌, ℕ, suc, ◌+◌, ◌<◌, ◌≤◌, true, List, [], ◌∷◌, ◌++◌, length, take, sym, refl, ap, ◌∙◌, subst, arith}
use Rattle.std.proofs.lemmas.List.{take-append-le}
use Rattle.std.proofs.lemmas.Bool.{and_from, lt-ltb}
use Rattle.counting.proofs.Splits.{length_push, last_same}
use Rattle.chain.specs.Chains.{Proper}
use Rattle.chain.proofs.ProperChains.{proper_more}
use Rattle.protocol.specs.declared.standings.Standing.TheVariants.{Leading}
use Rattle.protocol.specs.Rings.{Ring, Fair, Sound, Follows}
use Rattle.protocol.specs.Rounds.{Passed, first, further}
use Rattle.protocol.specs.States.{State}
use Rattle.protocol.proofs.Invariant.{Invariant}
use Rattle.protocol.proofs.Keeps.Stands.{lead_order}

-- the chain of the lead alone
pub alone_proper : (g : Ring) → Fair g → Proper g.n g.t g.lead (g.lead ∷ [])
alone_proper g fair = record { others = []; split = refl; short = omega arith; within = and_from _ _ (lt-ltb g.lead g.n fair.leads) refl; apart = refl }

module _ (g : Ring) (fair : Fair g) (s : State) (inv : Invariant g s) where
  -- a sound switch that holds a chain is not the lead
  pub holder_follows : (q m : ℕ) (names : List ℕ) → Sound g q → s.taken q m names ≡ true → Follows g q
  holder_follows q m names sound here = (sound.0, sound.1, λ same. inv.idle (subst (λ z. g.sound z ≡ true) same sound.1) m names (subst (λ z. s.taken z m names ≡ true) same here))

  pub passed_proper : (r m : ℕ) (names : List ℕ) → r ≤ g.t + 1 → Passed g s r m names → Proper g.n g.t g.lead names × (m < g.codes)
  passed_proper r m names room (first one sound leads alone) =
      let same = lead_order g s (inv.lead_stands sound) m leads in
      let coded = fair.coded in
      (subst (Proper g.n g.t g.lead) (sym alone) (alone_proper g fair), omega arith)
  passed_proper r m names room (further q front two sound sends here long new ends) =
      let h = inv.held q m front (holder_follows q m front sound here) here in
      (subst (Proper g.n g.t g.lead) (sym ends) (proper_more g.n g.t g.lead front h.proper q (omega arith) sound.0 new), h.coded)

  -- its fronts are signed, but for the whole
  pub passed_shown : (r m : ℕ) (names : List ℕ) → Passed g s r m names → (k : ℕ) → suc k < length names → s.signed m (take (suc k) names) ≡ true
  passed_shown r m names (first one sound leads alone) k low = let l = ap length alone in absurd (omega arith)
  passed_shown r m names (further q front two sound sends here long new ends) k low =
      let h = inv.held q m front (holder_follows q m front sound here) here in
      let l = ap length ends ∙ length_push front q in
      let same : take (suc k) names ≡ take (suc k) front = ap (take (suc k)) ends ∙ take-append-le (suc k) front (q ∷ []) (omega arith) in
      subst (λ z. s.signed m z ≡ true) (sym same) (h.shown k (omega arith))

module _ (g : Ring) (s : State) where
  pub passed_long : (r m : ℕ) (names : List ℕ) → Passed g s r m names → length names ≡ r
  passed_long r m names (first one sound leads alone) = ap length alone ∙ sym one
  passed_long r m names (further q front two sound sends here long new ends) = ap length ends ∙ length_push front q ∙ long

  -- a chain that a follower passes on is one that it holds
  pub passed_own : (r m q : ℕ) (front : List ℕ) → Follows g q → Passed g s r m (front ++ q ∷ []) → s.taken q m front ≡ true
  passed_own r m q front follows (first one sound leads alone) = absurd (follows.2 (last_same front [] q g.lead alone).1)
  passed_own r m q front follows (further q' front' two sound sends here long new ends) =
      let same = last_same front front' q q' ends in
      let named : s.taken q m front' ≡ true = subst (λ z. s.taken z m front' ≡ true) (sym same.1) here in
      subst (λ z. s.taken q m z ≡ true) (sym same.0) named

  -- the chain of the lead alone is passed on in round 1, by the lead
  pub passed_alone : (r m : ℕ) → Passed g s r m (g.lead ∷ []) → (r ≡ 1) × (s.standing g.lead ≡ Leading m)
  passed_alone r m (first one sound leads alone) = (one, leads)
  passed_alone r m (further q front two sound sends here long new ends) = let l = ap length ends ∙ length_push front q in absurd (omega arith)
