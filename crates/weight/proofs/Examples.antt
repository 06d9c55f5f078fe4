-- The worked examples. Assumes nothing.
--   backers   the second names of a list of chains
--   light     S without the names that a chain hides for w has fewer than w - 2 names
--   every     every chain of a list passes a test
use Rattle.std.proofs.Common.{◌≡◌, ℕ, suc, ◌+◌, ◌≤◌, Bool, true, not, ◌&&◌, eqb, ltb, List, [], ◌∷◌, length, get_or, sym, refl, ap, subst, inr, ⊎_elim, arith}
use mathlib.Core.Path.{fun_ext}
use mathlib.Core.Bool.{or-false}
use Rattle.std.proofs.lemmas.Bool.{true≢false, cases_lt, and_parts, or_cases, or_left, or_right, eqb-true, eq-eqb, ltb-true}
use Rattle.counting.specs.Lists.{alike, has, tally}
use Rattle.counting.proofs.Alike.{alike_same, alike_self}
use Rattle.weight.specs.Examples.{among, Worked}
use Rattle.weight.specs.Weights.{Seconds, Bears, Weight, hidden}
use Rattle.weight.proofs.Smaller.{smaller}

abbrev backers : List (List ℕ) → List ℕ
backers [] = []
backers ([] ∷ chains) = backers chains
backers ((l ∷ []) ∷ chains) = backers chains
backers ((l ∷ q ∷ rest) ∷ chains) = q ∷ backers chains

abbrev light : (n t w : ℕ) → (ℕ → Bool) → List ℕ → Bool
light n t w S names = ltb (2 + tally (λ q. S q && not (has q (hidden t w names))) n) w

abbrev every : (List ℕ → Bool) → List (List ℕ) → Bool
every f [] = true
every f (chain ∷ chains) = f chain && every f chains

every_one : (f : List ℕ → Bool) (chains : List (List ℕ)) (names : List ℕ) → every f chains ≡ true → among chains names ≡ true → f names ≡ true
every_one f [] names all on = absurd (true≢false (sym on))
every_one f (chain ∷ chains) names all on =
    let a = and_parts (f chain) (every f chains) all in
    ⊎_elim (λ here. subst (λ l. f l ≡ true) (sym (alike_same names chain here)) a.0) (λ later. every_one f chains names a.1 later) (or_cases (alike names chain) (among chains names) on)

-- the second names of a list of chains are S
backer_each : (chains : List (List ℕ)) (l q : ℕ) (rest : List ℕ) → among chains (l ∷ q ∷ rest) ≡ true → has q (backers chains) ≡ true
backer_each [] l q rest on = absurd (true≢false (sym on))
backer_each ([] ∷ chains) l q rest on = ⊎_elim (λ here. let e = ap length (alike_same (l ∷ q ∷ rest) [] here) in absurd (omega arith)) (λ later. backer_each chains l q rest later) (or_cases (alike (l ∷ q ∷ rest) []) (among chains (l ∷ q ∷ rest)) on)
backer_each ((x ∷ []) ∷ chains) l q rest on = ⊎_elim (λ here. let e = ap length (alike_same (l ∷ q ∷ rest) (x ∷ []) here) in absurd (omega arith)) (λ later. backer_each chains l q rest later) (or_cases (alike (l ∷ q ∷ rest) (x ∷ [])) (among chains (l ∷ q ∷ rest)) on)
backer_each ((x ∷ y ∷ ys) ∷ chains) l q rest on =
    ⊎_elim
    (λ here. or_left _ _ (eq-eqb q y (ap (λ xs. get_or xs 1 0) (alike_same (l ∷ q ∷ rest) (x ∷ y ∷ ys) here))))
    (λ later. or_right _ _ (backer_each chains l q rest later))
    (or_cases (alike (l ∷ q ∷ rest) (x ∷ y ∷ ys)) (among chains (l ∷ q ∷ rest)) on)

backer_only : (chains : List (List ℕ)) (q : ℕ) → has q (backers chains) ≡ true → (l : ℕ) × (rest : List ℕ) × (among chains (l ∷ q ∷ rest) ≡ true)
backer_only [] q on = absurd (true≢false (sym on))
backer_only ([] ∷ chains) q on = let c = backer_only chains q on in (c.0, c.1, c.2)
backer_only ((x ∷ []) ∷ chains) q on = let c = backer_only chains q on in (c.0, c.1, or_right (alike (c.0 ∷ q ∷ c.1) (x ∷ [])) _ c.2)
backer_only ((x ∷ y ∷ ys) ∷ chains) q on =
    ⊎_elim
    (λ here. let same = eqb-true q y here in (x, ys, or_left _ _ (subst (λ z. alike (x ∷ z ∷ ys) (x ∷ y ∷ ys) ≡ true) (sym same) (alike_self (x ∷ y ∷ ys)))))
    (λ later. let c = backer_only chains q later in (c.0, c.1, or_right (alike (c.0 ∷ q ∷ c.1) (x ∷ y ∷ ys)) _ c.2))
    (or_cases (eqb q y) (has q (backers chains)) on)

seconds : (chains : List (List ℕ)) → Seconds (among chains) (λ q. has q (backers chains))
seconds chains = record { each = backer_each chains; only = backer_only chains }

-- one chain bears w, and none bears w + 1
weighs : (n t : ℕ) (chains : List (List ℕ)) (w : ℕ) (names : List ℕ) → among chains names ≡ true → 2 ≤ length names → Bears n t (λ q. has q (backers chains)) w names → every (light n t (suc w) (λ q. has q (backers chains))) chains ≡ true → Weight n t (among chains) w
weighs n t chains w names here long bears all =
    let S = λ (q : ℕ). has q (backers chains) in
    record {
      S = S;
      seconds = seconds chains;
      reached = inr (record { names = names; here = here; long = long; bears = bears });
      most = λ v borne.
          ⊎_elim
          (λ more.
          let less = ltb-true _ (suc w) (every_one (light n t (suc w) S) chains borne.names all borne.here) in
          let heavy = smaller n t S borne.names v (suc w) more borne.bears in
          absurd (omega arith))
          (λ le. omega arith)
          (cases_lt w v);
    }

pub worked : Worked
worked =
    record {
      three_backers = weighs 4 1 ((0 ∷ 1 ∷ []) ∷ (0 ∷ 2 ∷ []) ∷ (0 ∷ 3 ∷ []) ∷ []) 5 (0 ∷ 1 ∷ []) refl (omega arith) (omega arith) refl;
      two_backers = weighs 4 3 ((0 ∷ 1 ∷ []) ∷ (0 ∷ 2 ∷ []) ∷ []) 3 (0 ∷ 1 ∷ []) refl (omega arith) (omega arith) refl;
      one_shows_the_other = weighs 5 4 ((0 ∷ 1 ∷ 2 ∷ []) ∷ (0 ∷ 2 ∷ 3 ∷ []) ∷ []) 3 (0 ∷ 2 ∷ 3 ∷ []) refl (omega arith) (omega arith) refl;
      each_hides_the_other = weighs 5 4 ((0 ∷ 1 ∷ 2 ∷ []) ∷ (0 ∷ 2 ∷ 1 ∷ []) ∷ []) 2 (0 ∷ 1 ∷ 2 ∷ []) refl (omega arith) (omega arith) refl;
      second_of_three = subst (Seconds (among ((0 ∷ 1 ∷ 2 ∷ []) ∷ []))) (fun_ext (λ q. or-false (eqb q 1))) (seconds ((0 ∷ 1 ∷ 2 ∷ []) ∷ []));
    }
