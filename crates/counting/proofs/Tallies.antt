-- How a tally grows, and what it says of lists of different numbers. Assumes nothing.
use Rattle.std.proofs.Common.{◌≡◌, ℕ, zero, suc, ◌+◌, ◌<◌, ◌≤◌, Bool, true, false, cond, not, ◌||◌, eqb, ltb, List, [], ◌∷◌, length, get_or, sym, refl, ap, ◌∙◌, subst, ⊎_elim, arith}
use Rattle.std.proofs.lemmas.Bool.{cases_Bool, cases_eq, cond-true, cond-false, and_parts, and_from, or_left, or_right, eq-eqb, ne_eqb, ltb-true, lt-ltb, not-true, not_from_false}
use Rattle.counting.specs.Lists.{has, distinct, below, tally}

-- one number more, by what the test says of it
pub tally_yes : (f : ℕ → Bool) (n : ℕ) → f n ≡ true → tally f (suc n) ≡ suc (tally f n)
tally_yes f n on = cond-true _ _ _ on

pub tally_no : (f : ℕ → Bool) (n : ℕ) → f n ≡ false → tally f (suc n) ≡ tally f n
tally_no f n off = cond-false _ _ _ off

pub tally_rises : (f : ℕ → Bool) (n : ℕ) → tally f n ≤ tally f (suc n)
tally_rises f n = ⊎_elim (λ on. let e = tally_yes f n on in omega arith) (λ off. let e = tally_no f n off in omega arith) (cases_Bool (f n))

pub tally_most : (f : ℕ → Bool) (n : ℕ) → tally f n ≤ n
tally_most f zero = omega arith
tally_most f (suc n) =
    let less = tally_most f n in
    ⊎_elim (λ on. let e = tally_yes f n on in omega arith) (λ off. let e = tally_no f n off in omega arith) (cases_Bool (f n))

-- tests that agree below n count alike
pub tally_alike : (f g : ℕ → Bool) (n : ℕ) → ((p : ℕ) → p < n → f p ≡ g p) → tally f n ≡ tally g n
tally_alike f g zero same = refl
tally_alike f g (suc n) same =
    let less = tally_alike f g n (λ p low. same p (omega arith)) in
    let here = same n (omega arith) in
    (λ i. cond (here i) (suc (less i)) (less i))

-- a test that one number more passes counts one more
pub tally_more : (f g : ℕ → Bool) (n k : ℕ) → k < n → f k ≡ false → g k ≡ true → ((p : ℕ) → (p ≡ k → ⊥) → g p ≡ f p) → tally g n ≡ suc (tally f n)
tally_more f g zero k low off on same = absurd (omega arith)
tally_more f g (suc n) k low off on same =
    ⊎_elim
    (λ here.
    let last = tally_alike g f n (λ p less. same p (λ e. absurd (omega arith))) in
    tally_yes g n (subst (λ j. g j ≡ true) here on) ∙ ap suc (last ∙ sym (tally_no f n (subst (λ j. f j ≡ false) here off))))
    (λ other.
    let less = tally_more f g n k (omega arith) off on same in
    let here = same n (λ e. other (sym e)) in
    ⊎_elim
    (λ yes_f. tally_yes g n (here ∙ yes_f) ∙ ap suc (less ∙ sym (tally_yes f n yes_f)))
    (λ no_f. tally_no g n (here ∙ no_f) ∙ less ∙ ap suc (sym (tally_no f n no_f)))
    (cases_Bool (f n)))
    (cases_eq k n)

pub tally_none : (f : ℕ → Bool) (n : ℕ) → ((p : ℕ) → p < n → f p ≡ false) → tally f n ≡ 0
tally_none f zero none = refl
tally_none f (suc n) none = tally_no f n (none n (omega arith)) ∙ tally_none f n (λ p low. none p (omega arith))

pub each_once : (xs : List ℕ) (n : ℕ) → distinct xs ≡ true → below n xs ≡ true → tally (λ p. has p xs) n ≡ length xs
each_once [] n apart low = tally_none (λ p. false) n (λ p _. refl)
each_once (x ∷ xs) n apart low =
    let a = and_parts (not (has x xs)) (distinct xs) apart in
    let b = and_parts (ltb x n) (below n xs) low in
    tally_more (λ p. has p xs) (λ p. has p (x ∷ xs)) n x (ltb-true x n b.0) (not-true (has x xs) a.0) (or_left (eqb x x) (has x xs) (eq-eqb x x refl)) (λ p other. ap (λ e. e || has p xs) (ne_eqb p x other)) ∙ ap suc (each_once xs n a.1 b.1)

pub at_most : (xs : List ℕ) (n : ℕ) → distinct xs ≡ true → below n xs ≡ true → length xs ≤ n
at_most xs n apart low = subst (λ k. k ≤ n) (each_once xs n apart low) (tally_most (λ p. has p xs) n)

pub room : (xs : List ℕ) (n p : ℕ) → distinct xs ≡ true → below n xs ≡ true → p < n → has p xs ≡ false → length xs < n
room xs n p apart low here missing =
    let more = at_most (p ∷ xs) n (and_from _ _ (not_from_false _ missing) apart) (and_from _ _ (lt-ltb p n here) low) in
    omega arith

-- a number at an index stands in the list
pub has_at : (xs : List ℕ) (i : ℕ) → i < length xs → has (get_or xs i 0) xs ≡ true
has_at [] i on = absurd (omega arith)
has_at (x ∷ xs) zero on = or_left _ _ (eq-eqb x x refl)
has_at (x ∷ xs) (suc i) on = or_right _ _ (has_at xs i (omega arith))

pub tally_all : (f : ℕ → Bool) (n : ℕ) → ((p : ℕ) → p < n → f p ≡ true) → tally f n ≡ n
tally_all f zero all = refl
tally_all f (suc n) all = tally_yes f n (all n (omega arith)) ∙ ap suc (tally_all f n (λ p low. all p (omega arith)))

-- what one number more in a list adds to the count of those that stand in it
list_again : (x : ℕ) (xs : List ℕ) (n : ℕ) → has x xs ≡ true → tally (λ p. has p (x ∷ xs)) n ≡ tally (λ p. has p xs) n
list_again x xs n in_it =
    tally_alike (λ p. has p (x ∷ xs)) (λ p. has p xs) n (λ p _. ⊎_elim (λ same. or_left _ _ (eq-eqb p x same) ∙ sym (subst (λ q. has q xs ≡ true) (sym same) in_it)) (λ other. ap (λ e. e || has p xs) (ne_eqb p x other)) (cases_eq p x))

list_more : (x : ℕ) (xs : List ℕ) (n : ℕ) → tally (λ p. has p (x ∷ xs)) n ≤ suc (tally (λ p. has p xs) n)
list_more x xs zero = omega arith
list_more x xs (suc n) =
    ⊎_elim
    (λ same.
    let last : tally (λ p. has p (x ∷ xs)) n ≡ tally (λ p. has p xs) n = tally_alike _ _ n (λ p low. ap (λ e. e || has p xs) (ne_eqb p x (λ e. absurd (omega arith)))) in
    let yes_more = tally_yes (λ p. has p (x ∷ xs)) n (or_left _ _ (eq-eqb n x same)) in
    let rises = tally_rises (λ p. has p xs) n in
    omega arith)
    (λ other.
    let less = list_more x xs n in
    let here : has n (x ∷ xs) ≡ has n xs = ap (λ e. e || has n xs) (ne_eqb n x other) in
    ⊎_elim
    (λ on. let a = tally_yes (λ p. has p (x ∷ xs)) n (here ∙ on) in let b = tally_yes (λ p. has p xs) n on in omega arith)
    (λ off. let a = tally_no (λ p. has p (x ∷ xs)) n (here ∙ off) in let b = tally_no (λ p. has p xs) n off in omega arith)
    (cases_Bool (has n xs)))
    (cases_eq n x)

pub list_most : (xs : List ℕ) (n : ℕ) → tally (λ p. has p xs) n ≤ length xs
list_most [] n = let e = tally_none (λ p. false) n (λ p _. refl) in omega arith
list_most (x ∷ xs) n = let more = list_more x xs n in let less = list_most xs n in omega arith

-- a list in which as many numbers stand as it is long has none twice
pub full_distinct : (xs : List ℕ) (n : ℕ) → tally (λ p. has p xs) n ≡ length xs → distinct xs ≡ true
full_distinct [] n full = refl
full_distinct (x ∷ xs) n full =
    let most = list_most xs n in
    ⊎_elim
    (λ twice. let same = list_again x xs n twice in absurd (omega arith))
    (λ once. let more = list_more x xs n in and_from _ _ (not_from_false _ once) (full_distinct xs n (omega arith)))
    (cases_Bool (has x xs))

-- a tally ends where nothing more passes
pub tally_past : (f : ℕ → Bool) (n d : ℕ) → ((q : ℕ) → n ≤ q → f q ≡ false) → tally f (n + d) ≡ tally f n
tally_past f n zero none = let e : n + 0 ≡ n = omega arith in ap (tally f) e
tally_past f n (suc d) none =
    let e : n + suc d ≡ suc (n + d) = omega arith in
    ap (tally f) e ∙ tally_no f (n + d) (none (n + d) (omega arith)) ∙ tally_past f n d none
