-- The three sends of the run under a sound lead: the first passes on the chain 0, the second 0 1 and 0 2, the third
-- 0 1 2 and 0 2 1. Assumes nothing.
use Rattle.std.proofs.Common.{◌≡◌, ℕ, true, not, ◌&&◌, eqb, ◌≢◌, List, [], ◌∷◌, ◌++◌, length, sym, refl, ap, ◌∙◌, ap₂, inl, inr, ⊎_elim, arith}
use Rattle.std.proofs.lemmas.Bool.{cases_Bool, both_ways, cond-true, cond-false, false≢true, and_parts, and_from, not_from_false, ne_eqb, or_cases, or_left, or_right}
use Rattle.counting.specs.Lists.{has}
use Rattle.protocol.specs.declared.standings.Standing.TheVariants.{Leading, Waiting, Carry, Done}
use Rattle.protocol.specs.LedRing.{ring, chain, backed, crossed, opened, first_sent, first_closed, second_sent, second_closed, third_sent}
use Rattle.protocol.specs.Rounds.{Passed, first, further, Sent}
use Rattle.protocol.proofs.Same.{kind, code}
use Rattle.protocol.proofs.Led.Tests.{is_chain, chain_is, one_or_two, no_lead, holds_lead, is_backed, holds_three}

not_the_lead : (p : ℕ) → p ≢ 0 → not (eqb p 0) ≡ true
not_the_lead p other = not_from_false (eqb p 0) (ne_eqb p 0 other)

-- in round 1 the lead signs its order, and nobody else has anything to pass on
first_passed : (m : ℕ) (names : List ℕ) → Passed ring opened 1 m names → chain (0 ∷ []) m names ≡ true
first_passed m names (first one sound leads is) = chain_is (0 ∷ []) m names (sym (ap code leads)) is
first_passed m names (further p front two sound sends here long new is) = absurd (omega arith)

first_passes : (m : ℕ) (names : List ℕ) → chain (0 ∷ []) m names ≡ true → Passed ring opened 1 m names
first_passes m names on = let is = is_chain (0 ∷ []) m names on in first refl refl (ap Leading (sym is.0)) is.1

pub first_send : Sent ring opened first_sent
first_send =
    record {
      rested = refl;
      room = omega arith;
      closed = refl;
      listens = refl;
      standing = λ p _. refl;
      signs = λ m names on. inr (first_passes m names on);
      keeps_signed = λ m names. ⊎_elim (λ on. absurd (false≢true on)) (first_passed m names);
      takes = λ p m names _ on. inr (waiting p m names on);
      keeps_taken = λ p m names _. ⊎_elim (λ on. absurd (false≢true on)) (λ passed. and_from (not (eqb p 0)) (chain (0 ∷ []) m names) (other p passed.0) (first_passed m names passed.1));
    }
  where
    other : (p : ℕ) → opened.standing p ≡ Waiting → not (eqb p 0) ≡ true
    other p waits = not_the_lead p (λ lead. let k = ap kind (sym (ap opened.standing lead) ∙ waits) in absurd (omega arith))

    waiting : (p m : ℕ) (names : List ℕ) → (not (eqb p 0) && chain (0 ∷ []) m names) ≡ true → (opened.standing p ≡ Waiting) × Passed ring opened 1 m names
    waiting p m names on =
        let parts = and_parts (not (eqb p 0)) (chain (0 ∷ []) m names) on in
        (cond-false (eqb p 0) (Leading 1) Waiting (ne_eqb p 0 (no_lead p parts.0)), first_passes m names parts.1)

-- in round 2 the others have the lead's chain to pass on
second_passed : (m : ℕ) (names : List ℕ) → Passed ring first_closed 2 m names → backed m names ≡ true
second_passed m names (first one sound leads is) = absurd (omega arith)
second_passed m names (further p front two sound sends here long new is) =
    let held = holds_lead p m front here in
    let whole : names ≡ 0 ∷ p ∷ [] = is ∙ ap (λ l. l ++ p ∷ []) held.2 in
    ⊎_elim
    (λ one. or_left _ _ (chain_is (0 ∷ 1 ∷ []) m names held.1 (whole ∙ ap (λ x. 0 ∷ x ∷ []) one)))
    (λ two. or_right (chain (0 ∷ 1 ∷ []) m names) _ (chain_is (0 ∷ 2 ∷ []) m names held.1 (whole ∙ ap (λ x. 0 ∷ x ∷ []) two)))
    (one_or_two p sound.0 held.0)

second_passes : (m : ℕ) (names : List ℕ) → backed m names ≡ true → Passed ring first_closed 2 m names
second_passes m names on =
    let is = is_backed m names on in
    ⊎_elim
    (λ one. further 1 (0 ∷ []) (omega arith) (omega arith, refl) (inl refl) (ap (λ x. chain (0 ∷ []) x (0 ∷ [])) is.0) refl refl one)
    (λ two. further 2 (0 ∷ []) (omega arith) (omega arith, refl) (inl refl) (ap (λ x. chain (0 ∷ []) x (0 ∷ [])) is.0) refl refl two)
    is.1

pub second_send : Sent ring first_closed second_sent
second_send =
    record {
      rested = refl;
      room = omega arith;
      closed = refl;
      listens = refl;
      standing = λ p _. refl;
      signs = λ m names on. ⊎_elim (λ old. inl old) (λ new. inr (second_passes m names new)) (or_cases (chain (0 ∷ []) m names) (backed m names) on);
      keeps_signed = λ m names. ⊎_elim (λ old. or_left _ _ old) (λ passed. or_right (chain (0 ∷ []) m names) _ (second_passed m names passed));
      takes = λ p m names _ on. ⊎_elim (λ old. inl old) (λ new. inr (waiting p m names new)) (or_cases (first_closed.taken p m names) (not (eqb p 0) && backed m names) on);
      keeps_taken = λ p m names _. ⊎_elim (λ old. or_left _ _ old) (λ passed. or_right (first_closed.taken p m names) _ (and_from (not (eqb p 0)) (backed m names) (other p passed.0) (second_passed m names passed.1)));
    }
  where
    other : (p : ℕ) → first_closed.standing p ≡ Waiting → not (eqb p 0) ≡ true
    other p waits = not_the_lead p (λ lead. let k = ap kind (sym (ap first_closed.standing lead) ∙ waits) in absurd (omega arith))

    waiting : (p m : ℕ) (names : List ℕ) → (not (eqb p 0) && backed m names) ≡ true → (first_closed.standing p ≡ Waiting) × Passed ring first_closed 2 m names
    waiting p m names on =
        let parts = and_parts (not (eqb p 0)) (backed m names) on in
        (cond-false (eqb p 0) (Carry 1) Waiting (ne_eqb p 0 (no_lead p parts.0)), second_passes m names parts.1)

-- in round 3 each of the two has the chain of the other to pass on
third_passed : (m : ℕ) (names : List ℕ) → Passed ring second_closed 3 m names → crossed m names ≡ true
third_passed m names (first one sound leads is) = absurd (omega arith)
third_passed m names (further p front two sound sends here long new is) =
    let held = holds_three p m front here in
    let which = one_or_two p sound.0 held.0 in
    ⊎_elim
    (λ short. let one = ap length short in absurd (omega arith))
    (⊎_elim
    (λ of_one. ⊎_elim (λ one. absurd (both_ways (has p front) new (ap₂ has one of_one))) (λ two. or_left _ _ (chain_is (0 ∷ 1 ∷ 2 ∷ []) m names held.1 (is ∙ ap₂ (λ l x. l ++ x ∷ []) of_one two))) which)
    (λ of_two. ⊎_elim (λ one. or_right (chain (0 ∷ 1 ∷ 2 ∷ []) m names) _ (chain_is (0 ∷ 2 ∷ 1 ∷ []) m names held.1 (is ∙ ap₂ (λ l x. l ++ x ∷ []) of_two one))) (λ two. absurd (both_ways (has p front) new (ap₂ has two of_two))) which))
    held.2

third_passes : (m : ℕ) (names : List ℕ) → crossed m names ≡ true → Passed ring second_closed 3 m names
third_passes m names on =
    ⊎_elim
    (λ one. let is = is_chain (0 ∷ 1 ∷ 2 ∷ []) m names one in further 2 (0 ∷ 1 ∷ []) (omega arith) (omega arith, refl) (inr (1, refl)) (ap (λ x. second_closed.taken 2 x (0 ∷ 1 ∷ [])) is.0) refl refl is.1)
    (λ two. let is = is_chain (0 ∷ 2 ∷ 1 ∷ []) m names two in further 1 (0 ∷ 2 ∷ []) (omega arith) (omega arith, refl) (inr (1, refl)) (ap (λ x. second_closed.taken 1 x (0 ∷ 2 ∷ [])) is.0) refl refl is.1)
    (or_cases (chain (0 ∷ 1 ∷ 2 ∷ []) m names) (chain (0 ∷ 2 ∷ 1 ∷ []) m names) on)

-- nobody waits any more
none_waits : (p : ℕ) → second_closed.standing p ≡ Waiting → ⊥
none_waits p waits =
    ⊎_elim
    (λ lead. let k = ap kind (sym (cond-true (eqb p 0) (Done 1) (Carry 1) lead) ∙ waits) in omega arith)
    (λ other. let k = ap kind (sym (cond-false (eqb p 0) (Done 1) (Carry 1) other) ∙ waits) in omega arith)
    (cases_Bool (eqb p 0))

pub third_send : Sent ring second_closed third_sent
third_send =
    record {
      rested = refl;
      room = omega arith;
      closed = refl;
      listens = refl;
      standing = λ p _. refl;
      signs = λ m names on. ⊎_elim (λ old. inl old) (λ new. inr (third_passes m names new)) (or_cases (second_closed.signed m names) (crossed m names) on);
      keeps_signed = λ m names. ⊎_elim (λ old. or_left _ _ old) (λ passed. or_right (second_closed.signed m names) _ (third_passed m names passed));
      takes = λ p m names _ on. inl on;
      keeps_taken = λ p m names _. ⊎_elim (λ old. old) (λ passed. absurd (none_waits p passed.0));
    }
