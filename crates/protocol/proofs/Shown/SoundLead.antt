-- Under a sound lead there is one order, and every follower backs it. Assumes nothing.
use Rattle.std.proofs.Common.{◌≡◌, ℕ, ◌+◌, ◌-◌, ◌≤◌, Bool, true, not, ◌&&◌, eqb, List, [], ◌∷◌, length, take, refl, ap, subst, arith}
use Rattle.std.proofs.lemmas.Bool.{and_parts, and_from, eqb-false, ne_eqb, not-true, not_from_false, or_from}
use Rattle.counting.specs.Lists.{has}
use Rattle.counting.proofs.Crowds.{tally_grows, tally_one_less}
use Rattle.counting.proofs.Prefixes.{has-take}
use Rattle.weight.specs.Weights.{Seconds, Borne}
use Rattle.protocol.specs.Promises.{sound_count}
use Rattle.protocol.specs.Rings.{Ring, Fair, Follows}
use Rattle.protocol.specs.States.{State}
use Rattle.protocol.proofs.Invariant.{Invariant, Stayed, current}

module _ (g : Ring) (fair : Fair g) (s : State) (inv : Invariant g s) (sound : g.sound g.lead ≡ true) where
  -- every chain that a follower holds has the order of the lead
  pub one_order : (p m : ℕ) (names : List ℕ) → Follows g p → s.taken p m names ≡ true → m ≡ g.order
  one_order p m names follows here =
      let held = inv.held p m names follows here in
      let long = ap length held.proper.split in
      let alone : s.signed m (g.lead ∷ []) ≡ true = subst (λ l. s.signed m l ≡ true) (ap (take 1) held.proper.split) (held.shown 0 (omega arith)) in
      (inv.led sound m alone).0

  -- from the send of round 1 on, every follower holds the chain of the lead alone
  pub first_chain : 1 ≤ current s → (p : ℕ) → Follows g p → s.taken p g.order (g.lead ∷ []) ≡ true
  first_chain begun p follows = (inv.led sound g.order (inv.begun sound begun)).1 p follows

  -- from the send of round 2 on, a follower that waited for it holds the chain of the lead and each follower
  pub second_chains : 2 ≤ current s → (p q : ℕ) → Follows g p → Follows g q → Stayed inv.left p 2 → s.taken p g.order (g.lead ∷ q ∷ []) ≡ true
  second_chains two p q follows_p follows_q stayed =
      let own = first_chain (omega arith) q follows_q in
      let passed = inv.passed_on q g.order (g.lead ∷ []) follows_q own (or_from _ _ (ne_eqb q g.lead follows_q.2) refl) two in
      (inv.delivered q g.order (g.lead ∷ []) follows_q passed).all p follows_p stayed

  -- and one of these chains, that of the lead and itself, bears the number of sound switches: it hides at most one name
  pub backed_by_all : 2 ≤ current s → (p : ℕ) (S : ℕ → Bool) → Follows g p → Stayed inv.left p 2 → Seconds (s.taken p g.order) S → Borne g.n g.t (s.taken p g.order) S (sound_count g)
  backed_by_all two p S follows stayed seconds =
      let k = g.t + 2 - sound_count g in
      let follower = λ (q : ℕ). g.sound q && not (eqb q g.lead) in
      let other = λ (q : ℕ). follower q && not (eqb q p) in
      let but_lead = tally_one_less g.sound g.n g.lead fair.leads sound in
      let but_own = tally_one_less follower g.n p follows.0 (and_from _ _ follows.1 (not_from_false _ (ne_eqb p g.lead follows.2))) in
      let rest = tally_grows other (λ q. S q && not (has q (take k (p ∷ [])))) g.n (λ q low on.
      let a = and_parts (follower q) (not (eqb q p)) on in
      let b = and_parts (g.sound q) (not (eqb q g.lead)) a.0 in
      let follows_q : Follows g q = (low, b.0, eqb-false q g.lead (not-true _ b.1)) in
      let backs = seconds.each g.lead q [] (second_chains two p q follows follows_q stayed) in
      and_from _ _ backs (not_from_false _ (has-take k (p ∷ []) q (or_from _ _ (not-true _ a.1) refl)))) in
      record { names = g.lead ∷ p ∷ []; here = second_chains two p p follows follows stayed; long = omega arith; bears = omega arith }
