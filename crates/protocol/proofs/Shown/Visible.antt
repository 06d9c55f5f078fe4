-- In the last round nothing that weighs can be hidden, under a faulty lead. Assumes nothing.
use Rattle.std.proofs.Common.{◌≡◌, ℕ, ◌+◌, ◌-◌, ◌≤◌, Bool, true, false, List, [], ◌∷◌, ◌++◌, length, subst, ⊎_elim, arith}
use Rattle.std.proofs.lemmas.Bool.{cases_Bool, cases_lt}
use Rattle.weight.specs.Weights.{Bears, Borne, Seconds}
use Rattle.protocol.specs.Rings.{Ring, Fair, Follows}
use Rattle.protocol.specs.States.{State}
use Rattle.protocol.proofs.Invariant.{Invariant, Stayed, current}
use Rattle.protocol.proofs.Shown.Backers.{backers_visible, own_chain}
use Rattle.protocol.proofs.Shown.Hidden.{bears_front, bears_further, bears_same, bears_swapped}
use Rattle.protocol.proofs.Shown.Seen.{Seen, front, further, seen}
use Rattle.protocol.proofs.Shown.Through.{second_name}

module _ (g : Ring) (fair : Fair g) (s : State) (inv : Invariant g s) (faulty : g.sound g.lead ≡ false) (last : g.t + 1 ≤ current s) where
  -- what i's chains bear, chains of a j that waited in the last round bear
  pub weights_visible : (i j m w : ℕ) (S S' : ℕ → Bool) → Follows g i → Follows g j → Stayed inv.left j (g.t + 1) → Seconds (s.taken i m) S → Seconds (s.taken j m) S' → Borne g.n g.t (s.taken i m) S w → Borne g.n g.t (s.taken j m) S' w
  weights_visible i j m w S S' follows_i follows_j stayed seconds seconds' borne =
      by_chain borne.names borne.here borne.long borne.bears (seen g fair s inv faulty last i j m follows_i follows_j stayed borne.names borne.here)
    where
      known : (q : ℕ) → S q ≡ true → S' q ≡ true
      known = backers_visible g fair s inv faulty last i j m S follows_i follows_j stayed seconds S' seconds'

      -- i passed the chain on: either this has the weight, or i's own chain of two names
      by_further : (names : List ℕ) → s.taken i m names ≡ true → 2 ≤ length names → Bears g.n g.t S w names → s.taken j m (names ++ i ∷ []) ≡ true → Borne g.n g.t (s.taken j m) S' w
      by_further [] here long bears reached = absurd (omega arith)
      by_further (l ∷ []) here long bears reached = absurd (omega arith)
      by_further (l ∷ q ∷ others) here long bears reached =
          let passed_on : Bears g.n g.t S' w (l ∷ q ∷ (others ++ i ∷ [])) → Borne g.n g.t (s.taken j m) S' w = λ bears'. record { names = l ∷ q ∷ (others ++ i ∷ []); here = reached; long = omega arith; bears = bears' } in
          ⊎_elim
          (λ deep.
          ⊎_elim
          (λ backs.
          let own = own_chain g fair s inv faulty last i j m S follows_i follows_j stayed seconds backs in
          let low = (second_name g fair s inv i m l q others follows_i here).1 in
          record {
            names = own.0 ∷ i ∷ [];
            here = own.1;
            long = omega arith;
            bears = bears_swapped g.n g.t S S' known w l q others own.0 i (omega arith) low (seconds.each l q others here) follows_i.0 backs bears;
          })
          (λ out. passed_on (bears_further g.n g.t S S' known w l i (q ∷ others) (omega arith) out bears))
          (cases_Bool (S i)))
          (λ few. passed_on (bears_same g.n g.t S S' known w l i (q ∷ others) few bears))
          (cases_lt (length (q ∷ others)) (g.t + 2 - w))

      by_chain : (names : List ℕ) → s.taken i m names ≡ true → 2 ≤ length names → Bears g.n g.t S w names → Seen s i j m names → Borne g.n g.t (s.taken j m) S' w
      by_chain names here long bears (front shown rest whole long' reached) =
          record {
            names = shown;
            here = reached;
            long = long';
            bears = bears_front g.n g.t S S' known w shown rest long' (subst (Bears g.n g.t S w) whole bears);
          }
      by_chain names here long bears (further reached) = by_further names here long bears reached
