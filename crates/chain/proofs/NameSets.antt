-- Sets of names by the bits of their masks, and how many names they have. Assumes nothing.
use Rattle.std.proofs.Common.{◌≡◌, ℕ, zero, suc, ◌+◌, ◌-◌, ◌*◌, ◌/◌, ◌%◌, ◌^◌, ◌<◌, ◌≤◌, Bool, true, false, cond, not, ◌&&◌, ◌||◌, eqb, ltb, List, length, get_or, take, refl, min, w16, sym, ap, ◌∙◌, ⊎_elim, arith, pow_pos}
use mathlib.Core.Bool.{and-true, and-false}
use lib.Bits.{bit_and, bit_or, and_le_r}
use lib.Count.{ones, ones_step, ones-le}
use Rattle.std.specs.Int.{bit_at, bit_not, trailing_zeros}
use Rattle.std.proofs.lemmas.Nat.{pow-add, one_shl}
use Rattle.std.proofs.lemmas.Nat.Bits.{bit_at-lt, bit_at-suc, bit_at_lowest, bit_at_above, bit_at_and, bit_at_not, bit_at_ones, bit_at-trailing_zeros}
use Rattle.std.proofs.lemmas.Bool.{cases_Bool, cases_lt, ne_eqb, eq-eqb, eqb-true, eqb-false, lt-ltb, ltb-true, and_left}
use Rattle.std.proofs.lemmas.Bool.Decides.{nat_tests}
use Rattle.std.proofs.lemmas.List.{take_more}
use Rattle.counting.specs.Lists.{has, below, tally}
use Rattle.counting.proofs.Pushes.{has_push_is, not_has}
use Rattle.counting.proofs.Tallies.{tally_yes, tally_no, tally_alike}
use Rattle.order.specs.Sets.{has as in_mask}
use Rattle.order.specs.Masks.{has-bit_or}
use Rattle.chain.specs.declared.name_sets.NameSet.{NameSet}
use Rattle.chain.specs.NameSets.{in_set}

min_test : (x y : ℕ) → x < 2 → y < 2 → eqb (min x y) 1 ≡ (eqb x 1 && eqb y 1)
min_test x y low low' = grind (arith, nat_tests)

flip_test : (x : ℕ) → x < 2 → eqb (1 - x) 1 ≡ not (eqb x 1)
flip_test x low = grind (arith, nat_tests)

-- no name from 16 up is in a set
pub past_all : (m q : ℕ) → m < 2 ^ 16 → 16 ≤ q → in_mask m q ≡ false
past_all m q low past = ne_eqb _ 1 (λ on. let off = bit_at_above m 16 q low past in omega arith)

pub some_bit : (m : ℕ) → m < 2 ^ 16 → eqb m 0 ≡ false → (q : ℕ) × (in_mask m q ≡ true)
some_bit m low some =
    let none = eqb-false m 0 some in
    (trailing_zeros w16 m, eq-eqb _ 1 (bit_at-trailing_zeros w16 m (omega arith) low).1)

pub put_bit : (m x : ℕ) → x < 16 → (q : ℕ) → in_mask (bit_or m ((1 * 2 ^ x) % 2 ^ 16)) q ≡ (eqb q x || in_mask m q)
put_bit m x low q = ap (λ b. in_mask (bit_or m b) q) (one_shl x 16 low) ∙ has-bit_or m x q

and_bit : (a b q : ℕ) → in_mask (bit_and a b) q ≡ (in_mask a q && in_mask b q)
and_bit a b q = ap (λ x. eqb x 1) (bit_at_and a b q) ∙ min_test _ _ (bit_at-lt a q) (bit_at-lt b q)

not_bit : (m q : ℕ) → m < 2 ^ 16 → q < 16 → in_mask (bit_not w16 m) q ≡ not (in_mask m q)
not_bit m q low here = ap (λ x. eqb x 1) (bit_at_not w16 m q low here) ∙ flip_test _ (bit_at-lt m q)

pub without_bit : (a b q : ℕ) → a < 2 ^ 16 → b < 2 ^ 16 → in_mask (bit_and a (bit_not w16 b)) q ≡ (in_mask a q && not (in_mask b q))
without_bit a b q low low' =
    and_bit a (bit_not w16 b) q ∙
    ⊎_elim
    (λ here. ap (λ x. in_mask a q && x) (not_bit b q low' here))
    (λ past. let off = past_all a q low past in and_left _ _ off ∙ sym (and_left _ _ off))
    (cases_lt q 16)

-- a tally from its first number on
tally_first : (f : ℕ → Bool) (n : ℕ) → tally f (suc n) ≡ cond (f 0) 1 0 + tally (λ q. f (suc q)) n
tally_first f zero = omega arith
tally_first f (suc n) =
    let less = tally_first f n in
    ⊎_elim
    (λ on. let a = tally_yes f (suc n) on in let b = tally_yes (λ q. f (suc q)) n on in omega arith)
    (λ off. let a = tally_no f (suc n) off in let b = tally_no (λ q. f (suc q)) n off in omega arith)
    (cases_Bool (f (suc n)))

first_bit : (x : ℕ) → x < 2 → x ≡ cond (eqb x 1) 1 0
first_bit x low = grind (arith, nat_tests)

-- how many a set has
pub ones_tally : (n m : ℕ) → m < 2 ^ n → ones m ≡ tally (in_mask m) n
ones_tally zero m low = let few = ones-le 0 m low in omega arith
ones_tally (suc n) m low =
    let power : 2 ^ suc n ≡ 2 ^ 1 * 2 ^ n = (let e : suc n ≡ 1 + n = omega arith in ap (λ j. 2 ^ j) e ∙ pow-add 2 1 n) in
    let half = ones_tally n (m / 2) (omega arith) in
    let rest : tally (in_mask (m / 2)) n ≡ tally (λ q. in_mask m (suc q)) n = tally_alike _ _ n (λ q _. ap (λ x. eqb x 1) (sym (bit_at-suc m q))) in
    let first = tally_first (in_mask m) n in
    let step = ones_step m in
    let low_bit = first_bit (bit_at m 0) (bit_at-lt m 0) in
    let lowest = bit_at_lowest m in
    omega arith

-- how many names below one are not in a set
pub ones_missing : (m x : ℕ) → m < 2 ^ 16 → x < 16 → ones (bit_and (bit_not w16 m) ((1 * 2 ^ x) % 2 ^ 16 - 1)) ≡ tally (λ q. not (in_mask m q)) x
ones_missing m x low small =
    let less = and_le_r (bit_not w16 m) (2 ^ x - 1) in
    let some = pow_pos x in
    ap (λ b. ones (bit_and (bit_not w16 m) (b - 1))) (one_shl x 16 small) ∙ ones_tally x (bit_and (bit_not w16 m) (2 ^ x - 1)) (omega arith) ∙
    tally_alike _ _ x (λ q below.
    and_bit (bit_not w16 m) (2 ^ x - 1) q ∙
    ap (λ b. in_mask (bit_not w16 m) q && eqb b 1) (bit_at_ones x q below) ∙ and-true _ ∙ not_bit m q low (omega arith))

-- the next name of a list goes into the set of those before it
from_low : (a b c : Bool) → (a ≡ true → b ≡ true) → (a || (b && c)) ≡ (b && (a || c))
from_low true b c low = sym (ap (λ x. x && true) (low refl))
from_low false b c low = refl

from_high : (a b c : Bool) → (b ≡ true → a ≡ false) → (b && c) ≡ (b && (a || c))
from_high a true c high = ap (λ x. x || c) (sym (high refl))
from_high a false c high = refl

pub next_in : (names : List ℕ) (i : ℕ) (s s' : NameSet) → i < length names → ((q : ℕ) → in_set s q ≡ (ltb q 16 && has q (take i names)))
    → (get_or names i 0 < 16 → (q : ℕ) → in_set s' q ≡ (eqb q (get_or names i 0) || in_set s q)) → (16 ≤ get_or names i 0 → s' ≡ s) → (q : ℕ) → in_set s' q ≡ (ltb q 16 && has q (take (i + 1) names))
next_in names i s s' on so_far put high q =
    let x = get_or names i 0 in
    let more : (eqb q x || has q (take i names)) ≡ has q (take (i + 1) names) = sym (has_push_is (take i names) x q) ∙ ap (has q) (sym (take_more names i 0 on)) in
    ⊎_elim
    (λ low. put low q ∙ ap (λ b. eqb q x || b) (so_far q) ∙ from_low (eqb q x) (ltb q 16) (has q (take i names)) (λ same. let e = eqb-true q x same in lt-ltb q 16 (omega arith)))
    (λ past. ap (λ t. in_set t q) (high past) ∙ so_far q ∙ from_high (eqb q x) (ltb q 16) (has q (take i names)) (λ low. let less = ltb-true q 16 low in ne_eqb q x (λ same. omega arith)))
    (cases_lt x 16) ∙
    ap (λ b. ltb q 16 && b) more

-- where all names of a list are below 16, the set has them all
pub all_low : (names : List ℕ) (q : ℕ) → below 16 names ≡ true → (ltb q 16 && has q names) ≡ has q names
all_low names q low =
    ⊎_elim
    (λ here. ap (λ b. b && has q names) (lt-ltb q 16 here))
    (λ past. let none = not_has 16 names q low past in ap (λ b. ltb q 16 && b) none ∙ and-false _ ∙ sym none)
    (cases_lt q 16)
