-- The rank of a list of new names, and the names of a rank. Assumes nothing.
use Rattle.std.proofs.Common.{◌≡◌, ℕ, zero, suc, ◌+◌, ◌-◌, ◌*◌, ◌/◌, ◌%◌, ◌<◌, ◌≤◌, Bool, true, false, not, ◌&&◌, ◌||◌, eqb, ltb, List, [], ◌∷◌, length, sym, refl, ap, ◌∙◌, subst, ⊎_elim, mul-le-mul_right, mod-lt, suc-mul, mul-zero, div-add-mod', arith}
use Rattle.std.proofs.lemmas.Bool.{cases_Bool, cases_lt, cond-true, cond-false, and_parts, and_from, and_left, and_cases, or_parts, or_left, or_right, or_from, or_cases, eqb-true, eqb-false, eq-eqb, ne_eqb, ltb-true, lt-ltb, not-true, not_from_true, not_from_false, both_ways}
use Rattle.counting.specs.Lists.{has, distinct, below, tally}
use Rattle.counting.proofs.Tallies.{tally_more}
use Rattle.chain.specs.Ranks.{ways, is_new, nth, rank, spelled, sooner}
use Rattle.chain.proofs.FirstFaults.{Good}

-- a test passes more numbers below a larger number, and one more past each that passes
tally_grows : (f : ℕ → Bool) (m d : ℕ) → tally f m ≤ tally f (m + d)
tally_grows f m zero = let e : m + 0 ≡ m = omega arith in let h = ap (tally f) e in omega arith
tally_grows f m (suc d) =
    let rest = tally_grows f m d in
    let e : m + suc d ≡ suc (m + d) = omega arith in
    let h = ap (tally f) e in
    ⊎_elim
    (λ yes. let u = cond-true (f (m + d)) (suc (tally f (m + d))) (tally f (m + d)) yes in omega arith)
    (λ no. let u = cond-false (f (m + d)) (suc (tally f (m + d))) (tally f (m + d)) no in omega arith)
    (cases_Bool (f (m + d)))

pub tally_passes : (f : ℕ → Bool) (x y : ℕ) → f x ≡ true → x < y → tally f x < tally f y
tally_passes f x y is less =
    let e = cond-true (f x) (suc (tally f x)) (tally f x) is in
    let g = tally_grows f (suc x) (y - suc x) in
    let s : suc x + (y - suc x) ≡ y = omega arith in
    let h : tally f (suc x) ≤ tally f y = subst (λ z. tally f (suc x) ≤ tally f z) s g in
    omega arith

pub tally_one : (f : ℕ → Bool) (x y : ℕ) → f x ≡ true → f y ≡ true → tally f x ≡ tally f y → x ≡ y
tally_one f x y a b e =
    ⊎_elim (λ l. absurd (let p = tally_passes f x y a l in omega arith)) (λ ge. ⊎_elim (λ l. absurd (let p = tally_passes f y x b l in omega arith)) (λ le. omega arith) (cases_lt y x)) (cases_lt x y)

pub record Nth (f : ℕ → Bool) (n d x : ℕ) : Type 0 where
  pub low : x < n
  pub passes : f x ≡ true
  pub above : tally f x ≡ d

pub nth_is : (f : ℕ → Bool) (n d : ℕ) → d < tally f n → Nth f n d (nth f n d)
nth_is f zero d l = absurd (omega arith)
nth_is f (suc n) d l =
    ⊎_elim
    (λ here.
    let p = and_parts (f n) (eqb (tally f n) d) here in
    subst (Nth f (suc n) d) (sym (cond-true (f n && eqb (tally f n) d) n (nth f n d) here)) (record { low = omega arith; passes = p.0; above = eqb-true (tally f n) d p.1 }))
    (λ not_here.
    let small : d < tally f n =
    ⊎_elim
    (λ no. let e = cond-false (f n) (suc (tally f n)) (tally f n) no in omega arith)
    (λ other. let e = eqb-false (tally f n) d other in ⊎_elim (λ yes. let u = cond-true (f n) (suc (tally f n)) (tally f n) yes in ⊎_elim (λ a. a) (λ ge. absurd (e (omega arith))) (cases_lt d (tally f n))) (λ no. let u = cond-false (f n) (suc (tally f n)) (tally f n) no in omega arith) (cases_Bool (f n)))
    (and_cases (f n) (eqb (tally f n) d) not_here) in
    let r = nth_is f n d small in
    let low = r.low in
    subst (Nth f (suc n) d) (sym (cond-false (f n && eqb (tally f n) d) n (nth f n d) not_here)) (record { low = omega arith; passes = r.passes; above = r.above }))
    (cases_Bool (f n && eqb (tally f n) d))

-- one new name fewer
pub fewer_new : (n free : ℕ) (before : List ℕ) (x : ℕ) → free ≡ tally (is_new before) n → x < n → is_new before x ≡ true → free - 1 ≡ tally (is_new (x ∷ before)) n
fewer_new n free before x is low new =
    let m = tally_more (is_new (x ∷ before)) (is_new before) n x low (not_from_true _ (or_left _ _ (eq-eqb x x refl))) new (λ p other. sym (ap (λ b. not (b || has p before)) (ne_eqb p x other))) in
    omega arith

-- a number in two digits
pub below_product : (d r w f : ℕ) → d < f → r < w → d * w + r < f * w
below_product d r w f l s = let m = mul-le-mul_right w l in let e = suc-mul d w in omega arith

pub digit_unique : (d r e s w : ℕ) → r < w → s < w → d * w + r ≡ e * w + s → (d ≡ e) × (r ≡ s)
digit_unique d r e s w a b same =
    ⊎_elim
    (λ l. absurd (let m = mul-le-mul_right w l in let u = suc-mul d w in omega arith))
    (λ ge. ⊎_elim (λ l. absurd (let m = mul-le-mul_right w l in let u = suc-mul e w in omega arith)) (λ le. let z : d ≡ e = omega arith in let k = ap (λ q. q * w) z in (z, omega arith)) (cases_lt e d))
    (cases_lt d e)

pub digits_back : (d r w : ℕ) → r < w → ((d * w + r) / w ≡ d) × ((d * w + r) % w ≡ r)
digits_back d r w l = digit_unique ((d * w + r) / w) ((d * w + r) % w) d r w (mod-lt (d * w + r) (omega arith)) l (div-add-mod' (d * w + r) w)

-- the parts of a list of new names
module _ (n : ℕ) (before : List ℕ) (x : ℕ) (xs : List ℕ) (g : Good n before (x ∷ xs)) where
  pub head_low : x < n
  head_low = ltb-true x n (and_parts (ltb x n) (below n xs) g.low).0

  pub head_new : is_new before x ≡ true
  head_new = not_from_false _ (g.new x (or_left _ _ (eq-eqb x x refl)))

  pub rest_good : Good n (x ∷ before) xs
  rest_good = record {
    low = (and_parts (ltb x n) (below n xs) g.low).1;
    apart = (and_parts (not (has x xs)) (distinct xs) g.apart).1;
    new = λ y is. or_from _ _ (ne_eqb y x (λ e. both_ways (has x xs) (not-true _ (and_parts (not (has x xs)) (distinct xs) g.apart).0) (subst (λ z. has z xs ≡ true) e is))) (g.new y (or_right _ _ is));
  }

pub good_cons : (n : ℕ) (before : List ℕ) (x : ℕ) (xs : List ℕ) → x < n → is_new before x ≡ true → Good n (x ∷ before) xs → Good n before (x ∷ xs)
good_cons n before x xs low new g =
    record {
      low = and_from _ _ (lt-ltb x n low) g.low;
      apart = and_from _ _ (not_from_false _ (⊎_elim (λ twice. absurd (both_ways (has x (x ∷ before)) (g.new x twice) (or_left _ _ (eq-eqb x x refl)))) (λ out. out) (cases_Bool (has x xs)))) g.apart;
      new = λ y is. ⊎_elim (λ here. subst (λ z. has z before ≡ false) (sym (eqb-true y x here)) (not-true _ new)) (λ later. (or_parts (eqb y x) (has y before) (g.new y later)).1) (or_cases (eqb y x) (has y xs) is);
    }

pub rank_below : (n free : ℕ) (before xs : List ℕ) → free ≡ tally (is_new before) n → Good n before xs → rank free before xs < ways free (length xs)
rank_below n free before [] is g = omega arith
rank_below n free before (x ∷ xs) is g =
    let low = head_low n before x xs g in
    let new = head_new n before x xs g in
    let d = tally_passes (is_new before) x n new low in
    below_product (tally (is_new before) x) (rank (free - 1) (x ∷ before) xs) (ways (free - 1) (length xs)) free (omega arith) (rank_below n (free - 1) (x ∷ before) xs (fewer_new n free before x is low new) (rest_good n before x xs g))

pub spelled_rank : (n free : ℕ) (before xs : List ℕ) → free ≡ tally (is_new before) n → Good n before xs → spelled n free before (length xs) (rank free before xs) ≡ xs
spelled_rank n free before [] is g = refl
spelled_rank n free before (x ∷ xs) is g =
    let low = head_low n before x xs g in
    let new = head_new n before x xs g in
    let fewer = fewer_new n free before x is low new in
    let rest = rest_good n before x xs g in
    let w = ways (free - 1) (length xs) in
    let d = tally (is_new before) x in
    let r = rank (free - 1) (x ∷ before) xs in
    let back = digits_back d r w (rank_below n (free - 1) (x ∷ before) xs fewer rest) in
    let at = nth_is (is_new before) n d (tally_passes (is_new before) x n new low) in
    let same : nth (is_new before) n d ≡ x = tally_one (is_new before) (nth (is_new before) n d) x at.passes new at.above in
    let first : nth (is_new before) n ((d * w + r) / w) ≡ x = ap (nth (is_new before) n) back.0 ∙ same in
    (λ k. first k ∷ spelled n (free - 1) (first k ∷ before) (length xs) (back.1 k)) ∙ ap (λ l. x ∷ l) (spelled_rank n (free - 1) (x ∷ before) xs fewer rest)

pub record Spells (n free : ℕ) (before : List ℕ) (k i : ℕ) (xs : List ℕ) : Type 0 where
  pub good : Good n before xs
  pub long : length xs ≡ k
  pub ranked : rank free before xs ≡ i

pub spelled_is : (n free : ℕ) (before : List ℕ) (k i : ℕ) → free ≡ tally (is_new before) n → i < ways free k → Spells n free before k i (spelled n free before k i)
spelled_is n free before zero i is l = record { good = record { low = refl; apart = refl; new = λ y has. absurd (both_ways false refl has) }; long = refl; ranked = omega arith }
spelled_is n free before (suc k) i is l =
    let w = ways (free - 1) k in
    let whole = div-add-mod' i w in
    let some : 0 < w = ⊎_elim (λ a. a) (λ none. absurd (let z : w ≡ 0 = omega arith in let e = ap (λ q. free * q) z in let m = mul-zero free in omega arith)) (cases_lt 0 w) in
    let r = mod-lt i some in
    let d : i / w < free = ⊎_elim (λ a. a) (λ ge. absurd (let m = mul-le-mul_right w ge in omega arith)) (cases_lt (i / w) free) in
    let at = nth_is (is_new before) n (i / w) (subst (λ z. i / w < z) is d) in
    let x = nth (is_new before) n (i / w) in
    let rest = spelled_is n (free - 1) (x ∷ before) k (i % w) (fewer_new n free before x is at.low at.passes) r in
    record {
      good = good_cons n before x _ at.low at.passes rest.good;
      long = ap suc rest.long;
      ranked = (λ j. at.above j * ways (free - 1) (rest.long j) + rest.ranked j) ∙ whole;
    }

-- a test on numbers, by its answer
pub ltb_not : (a b : ℕ) → b ≤ a → ltb a b ≡ false
ltb_not a b le = ⊎_elim (λ yes. absurd (let l = ltb-true a b yes in omega arith)) (λ no. no) (cases_Bool (ltb a b))

pub ltb_shift : (m a b : ℕ) → ltb (m + a) (m + b) ≡ ltb a b
ltb_shift m a b = ⊎_elim (λ l. lt-ltb (m + a) (m + b) (omega arith) ∙ sym (lt-ltb a b l)) (λ ge. ltb_not (m + a) (m + b) (omega arith) ∙ sym (ltb_not a b ge)) (cases_lt a b)

-- the rank has the order of a dictionary
pub rank_sooner : (n free : ℕ) (before xs ys : List ℕ) → free ≡ tally (is_new before) n → Good n before xs → Good n before ys → length xs ≡ length ys → ltb (rank free before xs) (rank free before ys) ≡ sooner xs ys
rank_sooner n free before [] [] is g h long = refl
rank_sooner n free before [] (y ∷ ys) is g h long = absurd (omega arith)
rank_sooner n free before (x ∷ xs) [] is g h long = absurd (omega arith)
rank_sooner n free before (x ∷ xs) (y ∷ ys) is g h long =
    let low = head_low n before x xs g in
    let new = head_new n before x xs g in
    let low' = head_low n before y ys h in
    let new' = head_new n before y ys h in
    let long' : length xs ≡ length ys = omega arith in
    let w = ways (free - 1) (length xs) in
    let same : ways (free - 1) (length ys) ≡ w = ap (ways (free - 1)) (sym long') in
    let d = tally (is_new before) x in
    let e = tally (is_new before) y in
    let r = rank (free - 1) (x ∷ before) xs in
    let s = rank (free - 1) (y ∷ before) ys in
    let rest = rest_good n before x xs g in
    let rest' = rest_good n before y ys h in
    let small = rank_below n (free - 1) (x ∷ before) xs (fewer_new n free before x is low new) rest in
    let small' : s < w = subst (λ z. s < z) same (rank_below n (free - 1) (y ∷ before) ys (fewer_new n free before y is low' new') rest') in
    ap (λ z. ltb (d * w + r) (e * z + s)) same ∙
    ⊎_elim
    (λ less.
    let up = below_product d r w e (tally_passes (is_new before) x y new less) small in
    lt-ltb (d * w + r) (e * w + s) (omega arith) ∙ sym (or_left _ _ (lt-ltb x y less)))
    (λ ge.
    ⊎_elim
    (λ more.
    let up = below_product e s w d (tally_passes (is_new before) y x new' more) small' in
    ltb_not (d * w + r) (e * w + s) (omega arith) ∙ sym (or_from _ _ (ltb_not x y ge) (and_left _ _ (ne_eqb x y (λ eq. omega arith)))))
    (λ le.
    let eq : x ≡ y = omega arith in
    let inner = rank_sooner n (free - 1) (x ∷ before) xs ys (fewer_new n free before x is low new) rest (subst (λ z. Good n (z ∷ before) ys) (sym eq) rest') long' in
    (λ k. ltb (d * w + r) (tally (is_new before) (sym eq k) * w + rank (free - 1) (sym eq k ∷ before) ys)) ∙ ltb_shift (d * w) r (rank (free - 1) (x ∷ before) ys) ∙ inner ∙ sym (λ k. ltb_not x y ge k || (eq-eqb x y eq k && sooner xs ys)))
    (cases_lt y x))
    (cases_lt x y)
