-- A close can always be made. Assumes nothing.
use Rattle.std.proofs.Common.{◌≡◌, ℕ, ◌+◌, ◌<◌, sym, refl, subst, ⊎_elim, arith}
use Rattle.std.proofs.lemmas.Bool.{cases_lt}
use Rattle.protocol.specs.Closable.{Reckoned, Closable}
use Rattle.protocol.specs.declared.standings.Standing.{Standing}
use Rattle.protocol.specs.declared.standings.Standing.TheVariants.{Leading, Waiting, Carry, Done, Quit}
use Rattle.protocol.specs.Rings.{Ring}
use Rattle.protocol.specs.Rounds.{Weighs, Closes, led, ends, done, quit, early, waits, quits, picks}
use Rattle.protocol.specs.States.{State}

module _ (g : Ring) (s : State) (r p : ℕ) (known : Reckoned g s p) where
  before_last : r < g.t + 1 → (after : Standing) × Closes g s r p Waiting after
  before_last soon =
      ⊎_elim
      (λ one.
      ⊎_elim
      (λ light. (Waiting, waits (refl, refl) soon (λ m' sole. (known.weights m', known.weighs m', subst (λ m. known.weights m + r < g.t + 3) (sym (one.1.only m' sole.names sole.one)) light))))
      (λ heavy. (Carry one.0, early one.0 (known.weights one.0) (refl, refl) soon one.1 (known.weighs one.0) heavy))
      (cases_lt (known.weights one.0 + r) (g.t + 3)))
      (λ none. (Waiting, waits (refl, refl) soon (λ m sole. absurd (none m sole))))
      known.sole

  at_last : r ≡ g.t + 1 → (after : Standing) × Closes g s r p Waiting after
  at_last last =
      ⊎_elim
      (λ some. (Carry (g.pick some.0), picks known.weights some.0 (refl, refl) last known.weighs some.1))
      (λ nothing. (Quit, quits (refl, refl) last (λ m. subst (Weighs g s p m) (nothing m) (known.weighs m))))
      known.heaviest

pub closable : Closable
closable g s r p (Leading m) few known = (Carry m, led m (refl, refl))
closable g s r p Waiting few known = ⊎_elim (before_last g s r p known) (λ no_less. at_last g s r p known (omega arith)) (cases_lt r (g.t + 1))
closable g s r p (Carry m) few known = (Done m, ends m (refl, refl))
closable g s r p (Done m) few known = (Done m, done m (refl, refl))
closable g s r p Quit few known = (Quit, quit (refl, refl))
