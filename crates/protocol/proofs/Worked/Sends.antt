-- The two sends of the worked run: the first passes nothing on, the second the chain 0 1. Assumes nothing.
use Rattle.std.proofs.Common.{◌≡◌, ℕ, true, ◌&&◌, eqb, List, [], ◌∷◌, ◌++◌, refl, ap, ◌∙◌, ap₂, inl, inr, ⊎_elim, arith}
use Rattle.std.proofs.lemmas.Bool.{false≢true, or_cases, or_left, or_right}
use Rattle.protocol.specs.Rounds.{Passed, first, further, Sent}
use Rattle.protocol.specs.WorkedRing.{ring, lead_alone, lead_and_one, opened, first_sent, first_closed, second_sent}
use Rattle.protocol.proofs.Worked.Tests.{one_holds, is_lead_and_one}

-- the lead is faulty, and in round 1 nobody else has anything to pass on
nothing_passed : (m : ℕ) (names : List ℕ) → Passed ring opened 1 m names → ⊥
nothing_passed m names (first one sound leads is) = false≢true sound
nothing_passed m names (further p front two sound sends here long new is) = omega arith

pub first_send : Sent ring opened first_sent
first_send =
    record {
      rested = refl;
      room = omega arith;
      closed = refl;
      listens = refl;
      standing = λ p _. refl;
      signs = λ m names on. absurd (false≢true on);
      keeps_signed = λ m names. ⊎_elim (λ on. on) (λ passed. absurd (nothing_passed m names passed));
      takes = λ p m names _ on. absurd (false≢true on);
      keeps_taken = λ p m names _. ⊎_elim (λ on. on) (λ passed. absurd (nothing_passed m names passed.1));
    }

-- in round 2 switch 1 alone holds a chain of one name
passed_on : (m : ℕ) (names : List ℕ) → Passed ring first_closed 2 m names → lead_and_one m names ≡ true
passed_on m names (first one sound leads is) = absurd (omega arith)
passed_on m names (further p front two sound sends here long new is) =
    let one = one_holds p m front here in
    let whole : names ≡ 0 ∷ 1 ∷ [] = is ∙ ap₂ (λ l x. l ++ x ∷ []) one.2 one.0 in
    ap₂ lead_and_one one.1 whole

-- and it passes that chain on with its name
passes_on : (m : ℕ) (names : List ℕ) → lead_and_one m names ≡ true → Passed ring first_closed 2 m names
passes_on m names on =
    let is = is_lead_and_one m names on in
    further 1 (0 ∷ []) (omega arith) (omega arith, refl) (inl refl) (ap (λ x. lead_alone x (0 ∷ [])) is.0) refl refl is.1

pub second_send : Sent ring first_closed second_sent
second_send =
    record {
      rested = refl;
      room = omega arith;
      closed = refl;
      listens = refl;
      standing = λ p _. refl;
      signs = λ m names on. ⊎_elim (λ old. inl old) (λ new. inr (passes_on m names new)) (or_cases (lead_alone m names) (lead_and_one m names) on);
      keeps_signed = λ m names. ⊎_elim (λ old. or_left _ _ old) (λ passed. or_right (lead_alone m names) _ (passed_on m names passed));
      takes = λ p m names _ on. ⊎_elim (λ old. inl old) (λ new. inr (refl, passes_on m names new)) (or_cases (eqb p 1 && lead_alone m names) (lead_and_one m names) on);
      keeps_taken = λ p m names _. ⊎_elim (λ old. or_left _ _ old) (λ passed. or_right (eqb p 1 && lead_alone m names) _ (passed_on m names passed.1));
    }
