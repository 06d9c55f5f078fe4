-- The weight of order 1 after round 2 of the run under a sound lead: two switches back it, and it weighs 4. Assumes nothing.
use Rattle.std.proofs.Common.{◌≡◌, ℕ, ◌≤◌, Bool, true, not, ◌&&◌, ◌||◌, eqb, ◌⊎◌, List, [], ◌∷◌, length, sym, ap, subst, inr, ⊎_elim, arith}
use Rattle.std.proofs.lemmas.Bool.{and_parts, eq-eqb, eqb-true, or_cases, or_left, or_right}
use Rattle.counting.proofs.Crowds.{tally_grows}
use Rattle.counting.specs.Lists.{has, tally}
use Rattle.weight.specs.Weights.{Weight, Bears, hidden}

-- the switches that back order 1
abbrev backers : ℕ → Bool
backers q = eqb q 1 || eqb q 2

-- where two switches back an order, no chain bears more than 4
at_most_four : (v : ℕ) (names : List ℕ) → Bears 3 2 backers v names → v ≤ 4
at_most_four v names bears =
    let two : tally (λ q. backers q && not (has q (hidden 2 v names))) 3 ≤ 2 = tally_grows (λ q. backers q && not (has q (hidden 2 v names))) backers 3 (λ q _ on. (and_parts _ _ on).0) in
    omega arith

-- the chains 0, 0 1 and 0 2 weigh 4
pub weighs_four : (held : List ℕ → Bool) → held (0 ∷ 1 ∷ []) ≡ true → held (0 ∷ 2 ∷ []) ≡ true → ((names : List ℕ) → held names ≡ true → (names ≡ 0 ∷ []) ⊎ ((names ≡ 0 ∷ 1 ∷ []) ⊎ (names ≡ 0 ∷ 2 ∷ []))) → Weight 3 2 held 4
weighs_four held one two only =
    record {
      S = backers;
      seconds = record { each = each; only = λ q on. (0, [], ⊎_elim (λ is. subst (λ x. held (0 ∷ x ∷ []) ≡ true) (sym (eqb-true q 1 is)) one) (λ is. subst (λ x. held (0 ∷ x ∷ []) ≡ true) (sym (eqb-true q 2 is)) two) (or_cases (eqb q 1) (eqb q 2) on)) };
      reached = inr (record { names = 0 ∷ 1 ∷ []; here = one; long = omega arith; bears = omega arith });
      most = λ v borne. at_most_four v borne.names borne.bears;
    }
  where
    each : (l q : ℕ) (rest : List ℕ) → held (l ∷ q ∷ rest) ≡ true → backers q ≡ true
    each l q rest here =
        ⊎_elim
        (λ short. let long = ap length short in absurd (omega arith))
        (⊎_elim (λ both. or_left (eqb q 1) (eqb q 2) (eq-eqb q 1 cc)) (λ both. or_right (eqb q 1) (eqb q 2) (eq-eqb q 2 cc)))
        (only (l ∷ q ∷ rest) here)
