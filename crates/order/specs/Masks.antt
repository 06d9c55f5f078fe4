-- Lemmas: masks by their bits, and the first bit of one. The law of the choice by number order is proved by them. Assumes nothing.
use Rattle.std.specs.Prelude.{◌≡◌, ℕ, zero, suc, ◌+◌, ◌/◌, ◌%◌, ◌^◌, ◌<◌, ◌≤◌, true, false, ◌||◌, ◌⊎◌, Some, None, Option, ◌==◌, ◌≢◌, bit_and, nat_eq, refl}
use Rattle.std.proofs.Math.Path.{sym}
use Rattle.std.proofs.Common.{ap, subst, ◌∙◌, inl, inr, ⊎_elim, arith}
use Rattle.std.specs.Int.{bit_at}
use Rattle.std.specs.Int.Bits.{bit_or, or_zero_r}
use Rattle.std.proofs.lemmas.Nat.{or_shr, or_mod}
use Rattle.std.proofs.lemmas.Nat.Bits.{shr_and_one, bit_at-suc, bit_at-zero, same_from_bits_below, bit_at-lt, bit_at-pow_same, bit_at-pow_other}
use Rattle.std.proofs.lemmas.Bool.{cases_Bool, cases_eq, cases_lt, cond-true, cond-false, eqb-false, eq-eqb, ne_eqb, or_left}
use Rattle.order.specs.Sets.{has, Member, lowest, least}

-- what the code tests
pub bit_tested : (m k : ℕ) → bit_and (m / 2 ^ k) 1 ≡ m / 2 ^ k % 2
bit_tested m k = shr_and_one m k

pub has_half : (m k : ℕ) → has (m / 2) k ≡ has m (suc k)
has_half m k = ap (λ x. nat_eq x 1) (sym (bit_at-suc m k))

-- a mask without a bit is empty
pub no_bits : (n m : ℕ) → m < 2 ^ n → ((k : ℕ) → k < n → has m k ≡ false) → m ≡ 0
no_bits n m low none =
    same_from_bits_below n m 0 low (omega arith) (λ i h. let less = bit_at-lt m i in let off = eqb-false (bit_at m i) 1 (none i h) in let zero = bit_at-zero i in omega arith)

pub lowest_none : (m k n : ℕ) → lowest m k n ≡ None → (j : ℕ) → k ≤ j → j < k + n → has m j ≡ false
lowest_none m k zero e j low high = absurd (omega arith)
lowest_none m k (suc n) e j low high =
    ⊎_elim
    (λ on. absurd (some_none k (sym (cond-true _ _ _ on) ∙ e)))
    (λ off. ⊎_elim (λ here. rw here off) (λ other. lowest_none m (suc k) n (sym (cond-false _ _ _ off) ∙ e) j (omega arith) (omega arith)) (cases_eq j k))
    (cases_Bool (has m k))
  where
    some_none : (k : ℕ) → ◌≡◌ {A = Option ℕ} (Some k) None → ⊥
    some_none k e = let z : ◌≡◌ {A = ℕ} 0 1 = cc in omega arith

-- the first bit that is set
pub lowest_is : (m k n j : ℕ) → k ≤ j → j < k + n → ((i : ℕ) → k ≤ i → i < j → has m i ≡ false) → has m j ≡ true → lowest m k n ≡ Some j
lowest_is m k zero j low high none on = absurd (omega arith)
lowest_is m k (suc n) j low high none on =
    ⊎_elim
    (λ here. cond-true _ _ _ (subst (λ i. has m i ≡ true) here on) ∙ ap Some (sym here))
    (λ other. cond-false _ _ _ (none k (omega arith) (omega arith)) ∙ lowest_is m (suc k) n j (omega arith) (omega arith) (λ i a b. none i (omega arith) b) on)
    (cases_eq j k)

pub lowest_has : (m k n j : ℕ) → lowest m k n ≡ Some j → has m j ≡ true
lowest_has m k zero j e = let z : ◌≡◌ {A = ℕ} 0 1 = cc in absurd (omega arith)
lowest_has m k (suc n) j e =
    ⊎_elim
    (λ on. let same : k ≡ j = some_same k j (sym (cond-true _ _ _ on) ∙ e) in rw (sym same) on)
    (λ off. lowest_has m (suc k) n j (sym (cond-false _ _ _ off) ∙ e))
    (cases_Bool (has m k))
  where
    some_same : (k j : ℕ) → ◌≡◌ {A = Option ℕ} (Some k) (Some j) → k ≡ j
    some_same k j e = cc

pub all_off : (m k n : ℕ) → ((j : ℕ) → k ≤ j → j < k + n → has m j ≡ false) → lowest m k n ≡ None
all_off m k zero none = refl
all_off m k (suc n) none = cond-false _ _ _ (none k (omega arith) (omega arith)) ∙ all_off m (suc k) n (λ j a b. none j (omega arith) (omega arith))

pub least_member : (m : ℕ) → m < 2 ^ 16 → Member m (least m)
unfolding least
least_member m low = go (lowest m 0 16) refl
  where
    go : (o : Option ℕ) → lowest m 0 16 ≡ o → Member m o
    go None e = no_bits 16 m low (λ k h. lowest_none m 0 16 e k (omega arith) (omega arith))
    go (Some k) e = lowest_has m 0 16 k e

-- a code that is in a set with none below it
module _ (m k : ℕ) (on : has m k ≡ true) (none : (j : ℕ) → j < k → has m j ≡ false) where
  pub least_is : k < 16 → Some k ≡ least m
  unfolding least
  least_is low = sym (lowest_is m 0 16 k (omega arith) (omega arith) (λ i _ below. none i below) on)

  pub nothing_below : (j : ℕ) → has m j ≡ true → k ≤ j
  nothing_below j in_it =
      ⊎_elim (λ below. absurd (both (sym in_it ∙ none j below))) (λ high. high) (cases_lt j k)
    where
      both : true ≡ false → ⊥
      both e = let z : ◌≡◌ {A = ℕ} 0 1 = cc in omega arith

pub least_none : (m : ℕ) → ((j : ℕ) → j < 16 → has m j ≡ false) → None ≡ least m
unfolding least
least_none m none = sym (all_off m 0 16 (λ j _ below. none j (omega arith)))

-- from the code's test to the set, and back
pub on_from : (m k : ℕ) → bit_and (m / 2 ^ k) 1 ≡ 1 → has m k ≡ true
on_from m k e = eq-eqb (m / 2 ^ k % 2) 1 (sym (bit_tested m k) ∙ e)

pub off_from : (m k : ℕ) → (bit_and (m / 2 ^ k) 1 ≢ 1) → has m k ≡ false
off_from m k e = ne_eqb (m / 2 ^ k % 2) 1 (λ is. e (bit_tested m k ∙ is))

-- one bit more in a mask
pub halves : (x : ℕ) → ((x % 2 ≡ 0) ⊎ (x % 2 ≡ 1))
halves x = ⊎_elim (λ one. inr one) (λ other. inl (omega arith)) (cases_eq (x % 2) 1)

low_bits : (m n j : ℕ) → bit_or m n / 2 ^ j % 2 ≡ bit_or (m / 2 ^ j % 2) (n / 2 ^ j % 2)
low_bits m n j = ap (λ x. x % 2) (or_shr m n j) ∙ or_mod (m / 2 ^ j) (n / 2 ^ j) 1

or_one : (x : ℕ) → bit_or (x % 2) 1 ≡ 1
or_one x = ⊎_elim (λ even. rw even refl) (λ odd. rw odd refl) (halves x)

pub has-bit_or : (m k j : ℕ) → has (bit_or m (2 ^ k)) j ≡ (j == k || has m j)
has-bit_or m k j =
    ⊎_elim
    (λ here.
    let set = low_bits m (2 ^ k) j ∙ ap (bit_or (m / 2 ^ j % 2)) (subst (λ i. bit_at (2 ^ k) i ≡ 1) (sym here) (bit_at-pow_same k)) ∙ or_one (m / 2 ^ j) in
    eq-eqb (bit_or m (2 ^ k) / 2 ^ j % 2) 1 set ∙ sym (or_left (j == k) (has m j) (eq-eqb j k here)))
    (λ other.
    let kept = low_bits m (2 ^ k) j ∙ ap (bit_or (m / 2 ^ j % 2)) (bit_at-pow_other k j other) ∙ or_zero_r (m / 2 ^ j % 2) in
    ap (λ x. nat_eq x 1) kept ∙ ap (λ b. b || has m j) (sym (ne_eqb j k other)))
    (cases_eq j k)

-- a mask of one bit
pub one_bit : (k j : ℕ) → has (2 ^ k) j ≡ (j == k)
one_bit k j =
    ⊎_elim
    (λ here. eq-eqb _ 1 (subst (λ i. bit_at (2 ^ k) i ≡ 1) (sym here) (bit_at-pow_same k)) ∙ sym (eq-eqb j k here))
    (λ other. ne_eqb _ 1 (λ is. let none = bit_at-pow_other k j other in omega arith) ∙ sym (ne_eqb j k other))
    (cases_eq j k)
