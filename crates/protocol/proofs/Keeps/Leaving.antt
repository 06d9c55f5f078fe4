-- The rounds at which switches have stopped waiting, after a close. Assumes nothing.
--   left_after   0 for a switch that still waits; the closed round for one that waited until now; as before for the others
use Rattle.std.proofs.Common.{◌≡◌, ℕ, suc, ◌≤◌, cond, eqb, ◌≢◌, sym, ◌∙◌, inl, inr, ⊎_elim, arith}
use Rattle.std.proofs.lemmas.Bool.{cases_eq, cond-true, cond-false, eq-eqb, ne_eqb}
use Rattle.protocol.specs.Rings.{Ring, Follows}
use Rattle.protocol.specs.Rounds.{Closed}
use Rattle.protocol.specs.States.{State}
use Rattle.protocol.proofs.Invariant.{Stayed, Invariant}
use Rattle.protocol.proofs.Same.{kind}
use Rattle.protocol.proofs.Keeps.Moves.{waiting_kind, stays_out}
use Rattle.protocol.proofs.Keeps.Stands.{sound_follower, zero_if_waits}

pub left_after : State → State → (ℕ → ℕ) → ℕ → ℕ
left_after s s' left p = cond (eqb (kind (s'.standing p)) 1) 0 (cond (eqb (left p) 0) (suc s.closed) (left p))

module _ (s s' : State) (left : ℕ → ℕ) (p : ℕ) where
  pub left_waits : kind (s'.standing p) ≡ 1 → left_after s s' left p ≡ 0
  unfolding left_after
  left_waits waits = cond-true _ _ _ (eq-eqb _ _ waits)

  -- one that does not wait after the close
  left_out : kind (s'.standing p) ≢ 1 → left_after s s' left p ≡ cond (eqb (left p) 0) (suc s.closed) (left p)
  unfolding left_after
  left_out out = cond-false _ _ _ (ne_eqb _ _ out)

  pub left_now : kind (s'.standing p) ≢ 1 → left p ≡ 0 → left_after s s' left p ≡ suc s.closed
  left_now out waited = left_out out ∙ cond-true _ _ _ (eq-eqb _ _ waited)

  pub left_before : kind (s'.standing p) ≢ 1 → left p ≢ 0 → left_after s s' left p ≡ left p
  left_before out gone = left_out out ∙ cond-false _ _ _ (ne_eqb _ _ gone)

  -- one that has not stopped waiting waits
  pub waits_after : left_after s s' left p ≡ 0 → kind (s'.standing p) ≡ 1
  waits_after none =
      ⊎_elim
      (λ waits. waits)
      (λ out.
      ⊎_elim
      (λ waited. let now = left_now out waited in absurd (omega arith))
      (λ gone. let before = left_before out gone in absurd (gone (sym before ∙ none)))
      (cases_eq (left p) 0))
      (cases_eq (kind (s'.standing p)) 1)

module _ (g : Ring) (s s' : State) (inv : Invariant g s) (e : Closed g s s') (p : ℕ) (follows : Follows g p) where
  -- one that had stopped waiting does not wait
  out_before : inv.left p ≢ 0 → kind (s.standing p) ≢ 1
  out_before gone waits = gone (zero_if_waits g s inv.left p (inv.stands p follows) (waiting_kind (s.standing p) waits))

  pub gone_before : inv.left p ≢ 0 → left_after s s' inv.left p ≡ inv.left p
  gone_before gone = left_before s s' inv.left p (stays_out g s (suc s.closed) p (s.standing p) (s'.standing p) (e.standing p (sound_follower g p follows)) (out_before gone)) gone

  -- one that had not stopped waiting before round x after the close had not before the close
  pub stayed_before : (x : ℕ) → Stayed (left_after s s' inv.left) p x → Stayed inv.left p x
  stayed_before x stayed =
      ⊎_elim
      (λ waits. inl waits)
      (λ gone. let same = gone_before gone in
      ⊎_elim
      (λ none. inl (sym same ∙ none))
      (λ later. inr (omega arith))
      stayed)
      (cases_eq (inv.left p) 0)

  -- and the other way round, up to the round that is closed
  pub stayed_after : (x : ℕ) → x ≤ suc s.closed → Stayed inv.left p x → Stayed (left_after s s' inv.left) p x
  stayed_after x soon stayed =
      ⊎_elim
      (λ waits. inl (left_waits s s' inv.left p waits))
      (λ out.
      ⊎_elim
      (λ waited. let now = left_now s s' inv.left p out waited in inr (omega arith))
      (λ gone. let same = left_before s s' inv.left p out gone in ⊎_elim (λ none. absurd (gone none)) (λ later. inr (omega arith)) stayed)
      (cases_eq (inv.left p) 0))
      (cases_eq (kind (s'.standing p)) 1)
