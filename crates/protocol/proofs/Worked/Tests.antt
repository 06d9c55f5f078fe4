-- What the tests of the worked run say. Assumes nothing.
use Rattle.std.proofs.Common.{◌≡◌, ℕ, true, ◌&&◌, eqb, ◌⊎◌, List, [], ◌∷◌, inl, inr, ⊎_elim}
use Rattle.std.proofs.lemmas.Bool.{and_parts, or_cases, eqb-true}
use Rattle.counting.specs.Lists.{alike}
use Rattle.counting.proofs.Alike.{alike_same}
use Rattle.protocol.specs.WorkedRing.{lead_alone, lead_and_one, second_sent}

pub is_lead_alone : (m : ℕ) (names : List ℕ) → lead_alone m names ≡ true → (m ≡ 1) × (names ≡ 0 ∷ [])
is_lead_alone m names on = let parts = and_parts (eqb m 1) (alike names (0 ∷ [])) on in (eqb-true m 1 parts.0, alike_same names (0 ∷ []) parts.1)

pub is_lead_and_one : (m : ℕ) (names : List ℕ) → lead_and_one m names ≡ true → (m ≡ 1) × (names ≡ 0 ∷ 1 ∷ [])
is_lead_and_one m names on = let parts = and_parts (eqb m 1) (alike names (0 ∷ 1 ∷ [])) on in (eqb-true m 1 parts.0, alike_same names (0 ∷ 1 ∷ []) parts.1)

-- the first chain is held by switch 1 alone
pub one_holds : (p m : ℕ) (names : List ℕ) → (eqb p 1 && lead_alone m names) ≡ true → (p ≡ 1) × (m ≡ 1) × (names ≡ 0 ∷ [])
one_holds p m names on =
    let parts = and_parts (eqb p 1) (lead_alone m names) on in
    let is = is_lead_alone m names parts.1 in
    (eqb-true p 1 parts.0, is.0, is.1)

-- at the end a switch holds chains of order 1 alone, and of these two alone
pub holds_two : (p m : ℕ) (names : List ℕ) → second_sent.taken p m names ≡ true → (m ≡ 1) × ((names ≡ 0 ∷ []) ⊎ (names ≡ 0 ∷ 1 ∷ []))
holds_two p m names on =
    ⊎_elim
    (λ short. let is = one_holds p m names short in (is.1, inl is.2))
    (λ long. let is = is_lead_and_one m names long in (is.0, inr is.1))
    (or_cases (eqb p 1 && lead_alone m names) (lead_and_one m names) on)
