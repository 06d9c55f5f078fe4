-- The weights of the worked run: 0 where no chain of two names is held, and 3 for order 1 at the end. Assumes nothing.
use Rattle.std.proofs.Common.{◌≡◌, ℕ, ◌<◌, ◌≤◌, Bool, true, false, not, ◌&&◌, eqb, ◌⊎◌, List, [], ◌∷◌, length, sym, refl, ap, subst, inl, inr, ⊎_elim, arith}
use Rattle.std.proofs.lemmas.Bool.{and_parts, eq-eqb, eqb-true, false≢true}
use Rattle.counting.proofs.Crowds.{tally_grows}
use Rattle.counting.specs.Lists.{has, tally}
use Rattle.weight.specs.Weights.{Weight, Bears, hidden}

-- chains of one name weigh nothing
pub weighs_nothing : (n t : ℕ) (held : List ℕ → Bool) → ((names : List ℕ) → held names ≡ true → length names < 2) → Weight n t held 0
weighs_nothing n t held short =
    record {
      S = λ q. false;
      seconds = record {
        each = λ l q rest here. let one = short (l ∷ q ∷ rest) here in absurd (omega arith);
        only = λ q on. absurd (false≢true on);
      };
      reached = inl (refl, short);
      most = λ v borne. let one = short borne.names borne.here in let long = borne.long in absurd (omega arith);
    }

-- where switch 1 is the only one that backs an order, no chain bears more than 3
at_most_three : (v : ℕ) (names : List ℕ) → Bears 3 1 (λ q. eqb q 1) v names → v ≤ 3
at_most_three v names bears =
    let one : tally (λ q. eqb q 1 && not (has q (hidden 1 v names))) 3 ≤ 1 = tally_grows (λ q. eqb q 1 && not (has q (hidden 1 v names))) (λ q. eqb q 1) 3 (λ q _ on. (and_parts _ _ on).0) in
    omega arith

-- the chains 0 and 0 1 weigh 3
pub weighs_three : (held : List ℕ → Bool) → held (0 ∷ 1 ∷ []) ≡ true → ((names : List ℕ) → held names ≡ true → (names ≡ 0 ∷ []) ⊎ (names ≡ 0 ∷ 1 ∷ [])) → Weight 3 1 held 3
weighs_three held two only =
    record {
      S = λ q. eqb q 1;
      seconds = record { each = each; only = λ q on. (0, [], subst (λ x. held (0 ∷ x ∷ []) ≡ true) (sym (eqb-true q 1 on)) two) };
      reached = inr (record { names = 0 ∷ 1 ∷ []; here = two; long = omega arith; bears = omega arith });
      most = λ v borne. at_most_three v borne.names borne.bears;
    }
  where
    each : (l q : ℕ) (rest : List ℕ) → held (l ∷ q ∷ rest) ≡ true → eqb q 1 ≡ true
    each l q rest here =
        ⊎_elim
        (λ short. let long = ap length short in absurd (omega arith))
        (λ both. eq-eqb q 1 cc)
        (only (l ∷ q ∷ rest) here)
