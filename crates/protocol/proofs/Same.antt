-- Standings told apart, and what is the same of two states. Assumes nothing.
--   kind   a number for each kind of standing: two standings of different kinds are not the same
use Rattle.std.proofs.Common.{◌≡◌, ℕ, Bool, true, List, sym, ◌∙◌, subst, ⊎_elim}
use mathlib.Core.Path.{fun_ext}
use Rattle.std.proofs.lemmas.Bool.{cases_Bool}
use Rattle.weight.specs.Weights.{Weight}
use Rattle.protocol.specs.declared.standings.Standing.{Standing}
use Rattle.protocol.specs.declared.standings.Standing.TheVariants.{Leading, Waiting, Carry, Done, Quit}
use Rattle.protocol.specs.Rings.{Ring}
use Rattle.protocol.specs.Rounds.{Sole, Weighs}
use Rattle.protocol.specs.States.{State}

abbrev pub kind : Standing → ℕ
kind (Leading m) = 0
kind Waiting = 1
kind (Carry m) = 2
kind (Done m) = 3
kind Quit = 4

-- the order in a standing
abbrev pub code : Standing → ℕ
code (Leading m) = m
code Waiting = 0
code (Carry m) = m
code (Done m) = m
code Quit = 0

-- two tests that pass together
pub same_test : (a b : Bool) → (a ≡ true → b ≡ true) → (b ≡ true → a ≡ true) → a ≡ b
same_test a b up down =
    ⊎_elim
    (λ on. on ∙ sym (up on))
    (λ off. ⊎_elim (λ on. down on ∙ sym on) (λ none. off ∙ sym none) (cases_Bool b))
    (cases_Bool a)

-- a switch that holds the same chains has the same sole order and the same weights
module _ (s s' : State) (p : ℕ) (same : (m : ℕ) (names : List ℕ) → s'.taken p m names ≡ s.taken p m names) where
  pub sole_same : (m : ℕ) → Sole s p m → Sole s' p m
  sole_same m sole = record { names = sole.names; one = same m sole.names ∙ sole.one; only = λ m' names' here. sole.only m' names' (sym (same m' names') ∙ here) }

  pub weighs_same : (g : Ring) (m w : ℕ) → Weighs g s p m w → Weighs g s' p m w
  weighs_same g m w = subst (λ held. Weight g.n g.t held w) (fun_ext (λ names. sym (same m names)))
