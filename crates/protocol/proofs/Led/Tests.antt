-- What the tests of the run under a sound lead say. Assumes nothing.
use Rattle.std.proofs.Common.{◌≡◌, ℕ, ◌<◌, true, not, ◌&&◌, eqb, ◌≢◌, ◌⊎◌, List, [], ◌∷◌, ap, ◌∙◌, inl, inr, ⊎_elim, arith}
use Rattle.std.proofs.lemmas.Bool.{and_parts, and_from, cases_eq, or_cases, eq-eqb, eqb-true, eqb-false, not-true}
use Rattle.counting.specs.Lists.{alike}
use Rattle.counting.proofs.Alike.{alike_same, alike_self}
use Rattle.protocol.specs.LedRing.{chain, backed, second_sent}

pub is_chain : (whole : List ℕ) (m : ℕ) (names : List ℕ) → chain whole m names ≡ true → (m ≡ 1) × (names ≡ whole)
is_chain whole m names on = let parts = and_parts (eqb m 1) (alike names whole) on in (eqb-true m 1 parts.0, alike_same names whole parts.1)

pub chain_is : (whole : List ℕ) (m : ℕ) (names : List ℕ) → m ≡ 1 → names ≡ whole → chain whole m names ≡ true
chain_is whole m names one same = and_from (eqb m 1) (alike names whole) (eq-eqb m 1 one) (ap (λ l. alike l whole) same ∙ alike_self whole)

-- 1 and 2 are the switches other than the lead
pub one_or_two : (p : ℕ) → p < 3 → p ≢ 0 → (p ≡ 1) ⊎ (p ≡ 2)
one_or_two p low other = ⊎_elim (λ one. inl one) (λ more. inr (omega arith)) (cases_eq p 1)

pub no_lead : (p : ℕ) → not (eqb p 0) ≡ true → p ≢ 0
no_lead p on = eqb-false p 0 (not-true (eqb p 0) on)

-- in round 1 the switches other than the lead hold its chain
pub holds_lead : (p m : ℕ) (names : List ℕ) → (not (eqb p 0) && chain (0 ∷ []) m names) ≡ true → (p ≢ 0) × (m ≡ 1) × (names ≡ 0 ∷ [])
holds_lead p m names on =
    let parts = and_parts (not (eqb p 0)) (chain (0 ∷ []) m names) on in
    let is = is_chain (0 ∷ []) m names parts.1 in
    (no_lead p parts.0, is.0, is.1)

pub is_backed : (m : ℕ) (names : List ℕ) → backed m names ≡ true → (m ≡ 1) × ((names ≡ 0 ∷ 1 ∷ []) ⊎ (names ≡ 0 ∷ 2 ∷ []))
is_backed m names on =
    ⊎_elim
    (λ one. let is = is_chain (0 ∷ 1 ∷ []) m names one in (is.0, inl is.1))
    (λ two. let is = is_chain (0 ∷ 2 ∷ []) m names two in (is.0, inr is.1))
    (or_cases (chain (0 ∷ 1 ∷ []) m names) (chain (0 ∷ 2 ∷ []) m names) on)

-- after round 2 they hold these three chains, and no other
pub holds_three : (p m : ℕ) (names : List ℕ) → second_sent.taken p m names ≡ true → (p ≢ 0) × (m ≡ 1) × ((names ≡ 0 ∷ []) ⊎ ((names ≡ 0 ∷ 1 ∷ []) ⊎ (names ≡ 0 ∷ 2 ∷ [])))
holds_three p m names on =
    ⊎_elim
    (λ short. let is = holds_lead p m names short in (is.0, is.1, inl is.2))
    (λ long.
    let parts = and_parts (not (eqb p 0)) (backed m names) long in
    let is = is_backed m names parts.1 in
    (no_lead p parts.0, is.0, inr is.1))
    (or_cases (not (eqb p 0) && chain (0 ∷ []) m names) (not (eqb p 0) && backed m names) on)
