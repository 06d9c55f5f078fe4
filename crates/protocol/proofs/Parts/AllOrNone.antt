-- Once the last round is closed, all sound switches have carried out an order or none has. Assumes nothing.
use Rattle.std.proofs.Common.{◌≡◌, ℕ, zero, suc, ◌+◌, ◌<◌, ◌≤◌, false, ◌⊎◌, sym, subst, inl, inr, ⊎_elim, arith}
use Rattle.std.proofs.lemmas.Bool.{cases_Bool, cases_eq, both_ways}
use Rattle.protocol.specs.Promises.{HasCarried}
use Rattle.protocol.specs.Rings.{Ring, Fair, Sound, Follows}
use Rattle.protocol.specs.Rounds.{Weighs}
use Rattle.protocol.specs.States.{State}
use Rattle.protocol.proofs.Invariant.{Invariant, Stands, waits, early, last, quit}
use Rattle.protocol.proofs.Parts.Decided.{carried_weighs, early_carried}
use Rattle.protocol.proofs.Parts.LastWeights.{all_follow, no_lighter}
use Rattle.protocol.proofs.Parts.Led.{all_carry}

-- a search: all below n are of one kind, or one of them is of the other
each_or_one : (P Q : ℕ → Type 0) (n : ℕ) → ((p : ℕ) → p < n → P p ⊎ Q p) → ((p : ℕ) → p < n → P p) ⊎ ((p : ℕ) × Q p)
each_or_one P Q zero either = inl (λ p low. absurd (omega arith))
each_or_one P Q (suc n) either =
    ⊎_elim
    (λ all.
    ⊎_elim
    (λ here. inl (λ p low. ⊎_elim (λ same. subst P (sym same) here) (λ other. all p (omega arith)) (cases_eq p n)))
    (λ one. inr (n, one))
    (either n (omega arith)))
    (λ one. inr one)
    (each_or_one P Q n (λ p low. either p (omega arith)))

module _ (g : Ring) (fair : Fair g) (s : State) (inv : Invariant g s) (end : g.t + 1 ≤ s.closed) where
  -- a follower that came to the end with nothing to carry out
  Empty : ℕ → Type 0
  Empty p = Follows g p × (inv.left p ≡ g.t + 1) × ((m : ℕ) → Weighs g s p m 0)

  stands_or_empty : (p : ℕ) → Follows g p → Stands g s inv.left p → HasCarried s p ⊎ Empty p
  unfolding Empty
  stands_or_empty p follows (waits is stays few) = absurd (omega arith)
  stands_or_empty p follows (early m w is some few sole weighs enough) = inl (m, early_carried s p m _ _ is)
  stands_or_empty p follows (last w h is left at_end weighs heaviest) = inl (g.pick h, inl is)
  stands_or_empty p follows (quit is left at_end weighs) = inr (follows, left, weighs)

  module _ (faulty : g.sound g.lead ≡ false) where
    carried_or_empty : (p : ℕ) → p < g.n → (Sound g p → HasCarried s p) ⊎ Empty p
    carried_or_empty p low =
        ⊎_elim
        (λ sound.
        let follows = all_follow g faulty p (low, sound) in
        ⊎_elim (λ carried. inl (λ _. carried)) (λ empty. inr empty) (stands_or_empty p follows (inv.stands p follows)))
        (λ not_sound. inl (λ sound. absurd (both_ways (g.sound p) not_sound sound.1)))
        (cases_Bool (g.sound p))

    -- where one holds nothing that weighs, none has carried out an order
    none_carried : (j p : ℕ) → Empty j → Sound g p → HasCarried s p → ⊥
    unfolding Empty
    none_carried j p empty sound carried =
        let follows = all_follow g faulty p sound in
        let heavy = carried_weighs g fair s inv p carried.0 follows carried.1 in
        let some = heavy.2 in
        let no_less = no_lighter g fair s inv faulty end p j carried.0 heavy.0 0 follows empty.0 empty.1 heavy.1 (empty.2 carried.0) in
        omega arith

  pub all_or_none : ((p : ℕ) → Sound g p → HasCarried s p) ⊎ ((p : ℕ) → Sound g p → HasCarried s p → ⊥)
  all_or_none =
      ⊎_elim
      (λ sound. let least = fair.least in inl (λ p sound_p. (g.order, all_carry g fair s inv sound (omega arith) (λ q follows few stays. omega arith) p sound_p)))
      (λ faulty.
      ⊎_elim
      (λ all. inl (λ p sound. all p sound.0 sound))
      (λ one. inr (λ p sound. none_carried faulty one.0 p one.1 sound))
      (each_or_one (λ p. Sound g p → HasCarried s p) Empty g.n (carried_or_empty faulty)))
      (cases_Bool (g.sound g.lead))
