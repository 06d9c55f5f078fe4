-- Comparing tallies, and finding a number that passes two tests. Assumes nothing.
use Rattle.std.proofs.Common.{◌≡◌, ℕ, zero, suc, ◌+◌, ◌<◌, ◌≤◌, Bool, true, false, not, ◌&&◌, ◌||◌, eqb, List, [], ◌∷◌, ◌++◌, length, sym, refl, ap, ◌∙◌, ⊎_elim, arith}
use mathlib.Core.Bool.{and-true}
use Rattle.std.proofs.lemmas.Bool.{cases_Bool, and_parts, and_from, and_right, or_left, or_right, or_from, eq-eqb, ne_eqb, not-true, not_from_true, not_from_false}
use Rattle.counting.specs.Lists.{has, tally}
use Rattle.counting.proofs.Tallies.{tally_yes, tally_no, tally_rises, tally_more, list_most}

-- a test that passes all that another passes counts at least as many
pub tally_grows : (f g : ℕ → Bool) (n : ℕ) → ((p : ℕ) → p < n → f p ≡ true → g p ≡ true) → tally f n ≤ tally g n
tally_grows f g zero up = omega arith
tally_grows f g (suc n) up =
    let less = tally_grows f g n (λ p low. up p (omega arith)) in
    ⊎_elim
    (λ on. let a = tally_yes f n on in let b = tally_yes g n (up n (omega arith) on) in omega arith)
    (λ off. let a = tally_no f n off in let b = tally_rises g n in omega arith)
    (cases_Bool (f n))

-- what passes one of two tests that nothing passes both of
pub tally_apart : (f g : ℕ → Bool) (n : ℕ) → ((p : ℕ) → p < n → f p ≡ true → g p ≡ false) → tally (λ p. f p || g p) n ≡ tally f n + tally g n
tally_apart f g zero apart = refl
tally_apart f g (suc n) apart =
    let less = tally_apart f g n (λ p low. apart p (omega arith)) in
    ⊎_elim
    (λ on.
    let a = tally_yes f n on in
    let b = tally_no g n (apart n (omega arith) on) in
    let c = tally_yes (λ p. f p || g p) n (or_left _ _ on) in
    omega arith)
    (λ off.
    let a = tally_no f n off in
    ⊎_elim
    (λ on. let b = tally_yes g n on in let c = tally_yes (λ p. f p || g p) n (or_right _ _ on) in omega arith)
    (λ none. let b = tally_no g n none in let c = tally_no (λ p. f p || g p) n (or_from _ _ off none) in omega arith)
    (cases_Bool (g n)))
    (cases_Bool (f n))

-- leaving out the numbers of a list takes away at most as many as it has
pub tally_without : (f : ℕ → Bool) (xs : List ℕ) (n : ℕ) → tally f n ≤ tally (λ p. f p && not (has p xs)) n + length xs
tally_without f xs n =
    let less = λ (p : ℕ). f p && not (has p xs) in
    let parts = tally_apart less (λ p. has p xs) n (λ p _ on. not-true _ (and_parts (f p) (not (has p xs)) on).1) in
    let whole = tally_grows f (λ p. less p || has p xs) n (λ p _ on. ⊎_elim (λ in_it. or_right _ _ in_it) (λ out. or_left _ _ (and_from _ _ on (not_from_false _ out))) (cases_Bool (has p xs))) in
    let most = list_most xs n in
    omega arith

-- leaving out one number that passes
pub tally_one_less : (f : ℕ → Bool) (n k : ℕ) → k < n → f k ≡ true → tally f n ≡ suc (tally (λ p. f p && not (eqb p k)) n)
tally_one_less f n k low on =
    tally_more (λ p. f p && not (eqb p k)) f n k low (and_right _ _ (not_from_true _ (eq-eqb k k refl))) on (λ p other. sym (same p (ne_eqb p k other)))
  where
    same : (p : ℕ) → eqb p k ≡ false → (f p && not (eqb p k)) ≡ f p
    same p other = ap (λ b. f p && not b) other ∙ and-true (f p)

-- where more pass one test than fail another, one passes both
pub record Both (f g : ℕ → Bool) (n : ℕ) : Type 0 where
  pub one : ℕ
  pub low : one < n
  pub first : f one ≡ true
  pub second : g one ≡ true

pub crowd : (f g : ℕ → Bool) (n : ℕ) → tally (λ p. not (g p)) n < tally f n → Both f g n
crowd f g zero more = absurd (omega arith)
crowd f g (suc n) more =
    ⊎_elim
    (λ on.
    ⊎_elim
    (λ good. record { one = n; low = omega arith; first = on; second = good })
    (λ bad.
    let a = tally_yes f n on in
    let b = tally_yes (λ p. not (g p)) n (not_from_false _ bad) in
    wider (crowd f g n (omega arith)))
    (cases_Bool (g n)))
    (λ off.
    let a = tally_no f n off in
    let b = tally_rises (λ p. not (g p)) n in
    wider (crowd f g n (omega arith)))
    (cases_Bool (f n))
  where
    wider : {f g : ℕ → Bool} {n : ℕ} → Both f g n → Both f g (suc n)
    wider b = let low = b.low in record { one = b.one; low = omega arith; first = b.first; second = b.second }

-- a number in one list after another
pub has-append : (xs ys : List ℕ) (q : ℕ) → has q (xs ++ ys) ≡ (has q xs || has q ys)
has-append [] ys q = refl
has-append (x ∷ xs) ys q = ap (λ b. eqb q x || b) (has-append xs ys q) ∙ assoc (eqb q x) (has q xs) (has q ys)
  where
    assoc : (a b c : Bool) → (a || (b || c)) ≡ ((a || b) || c)
    assoc true b c = refl
    assoc false b c = refl
