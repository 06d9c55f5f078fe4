-- Chains that bear a weight because another one does, which hides as many backers or more. Assumes nothing.
use Rattle.std.proofs.Common.{◌≡◌, ℕ, zero, suc, ◌+◌, ◌-◌, ◌<◌, ◌≤◌, Bool, true, false, not, ◌&&◌, eqb, List, [], ◌∷◌, ◌++◌, length, take, sym, refl, ap, ◌∙◌, subst, arith}
use Rattle.std.proofs.lemmas.List.{take_all, take-append-le}
use Rattle.std.proofs.lemmas.Bool.{and_parts, and_from, both_ways, eq-eqb, ne_eqb, not-true, not_from_false, or_from, or_left, or_parts}
use Rattle.counting.specs.Lists.{has}
use Rattle.counting.proofs.Crowds.{tally_grows, tally_one_less}
use Rattle.counting.proofs.Prefixes.{has-take}
use Rattle.counting.proofs.Pushes.{has_push}
use Rattle.weight.specs.Weights.{Bears, hidden}

-- what is not in the first k numbers of a list is not in those of a front of it
take_front : (k : ℕ) (xs ys : List ℕ) (q : ℕ) → has q (take k (xs ++ ys)) ≡ false → has q (take k xs) ≡ false
take_front zero xs ys q none = refl
take_front (suc k) [] ys q none = refl
take_front (suc k) (x ∷ xs) ys q none =
    let parts = or_parts (eqb q x) (has q (take k (xs ++ ys))) none in
    or_from _ _ parts.0 (take_front k xs ys q parts.1)

-- the first of a list is among its first k, if k is not 0
head_taken : (k x : ℕ) (xs : List ℕ) → 1 ≤ k → has x (take k (x ∷ xs)) ≡ true
head_taken zero x xs some = absurd (omega arith)
head_taken (suc k) x xs some = or_left _ _ (eq-eqb x x refl)

-- backers S of one chain, and S', at least these, of the other
module _ (n t : ℕ) (S S' : ℕ → Bool) (more : (q : ℕ) → S q ≡ true → S' q ≡ true) (w : ℕ) where
  -- no backer is hidden that was not hidden before
  bears_more : (names names' : List ℕ) → ((q : ℕ) → S q ≡ true → has q (hidden t w names) ≡ false → has q (hidden t w names') ≡ false) → Bears n t S w names → Bears n t S' w names'
  bears_more names names' open_too bears =
      let grows =
      tally_grows
      (λ q. S q && not (has q (hidden t w names)))
      (λ q. S' q && not (has q (hidden t w names')))
      n
      (λ q _ on.
      let parts = and_parts (S q) (not (has q (hidden t w names))) on in
      and_from _ _ (more q parts.0) (not_from_false _ (open_too q parts.0 (not-true _ parts.1)))) in
      omega arith

  -- a front of the chain
  pub bears_front : (shown rest : List ℕ) → 2 ≤ length shown → Bears n t S w (shown ++ rest) → Bears n t S' w shown
  bears_front [] rest long = absurd (omega arith)
  bears_front (a ∷ shown) rest long = bears_more (a ∷ shown ++ rest) (a ∷ shown) (λ q _. take_front (t + 2 - w) shown rest q)

  -- the chain with one name more, where the hidden names are the same
  pub bears_same : (l i : ℕ) (others : List ℕ) → t + 2 - w ≤ length others → Bears n t S w (l ∷ others) → Bears n t S' w (l ∷ (others ++ i ∷ []))
  bears_same l i others few = bears_more (l ∷ others) (l ∷ (others ++ i ∷ [])) (λ q _ none. ap (has q) (take-append-le (t + 2 - w) others (i ∷ []) few) ∙ none)

  -- the chain with one name more, where all its names are hidden and the new one is no backer
  pub bears_further : (l i : ℕ) (others : List ℕ) → length others ≤ t + 2 - w → S i ≡ false → Bears n t S w (l ∷ others) → Bears n t S' w (l ∷ (others ++ i ∷ []))
  bears_further l i others all out =
      bears_more (l ∷ others) (l ∷ (others ++ i ∷ [])) (λ q backs none. has-take (t + 2 - w) (others ++ i ∷ []) q (has_push others i q (ap (has q) (sym (take_all (t + 2 - w) others all)) ∙ none) (λ e. both_ways (S i) out (subst (λ p. S p ≡ true) e backs))))

  -- a chain whose second name is a hidden backer, and one that hides one backer alone
  pub bears_swapped : (l q : ℕ) (others : List ℕ) (k i : ℕ) → 1 ≤ t + 2 - w → q < n → S q ≡ true → i < n → S i ≡ true → Bears n t S w (l ∷ q ∷ others) → Bears n t S' w (k ∷ i ∷ [])
  bears_swapped l q others k i some low backs low' backs' bears =
      let hides = head_taken (t + 2 - w) q others some in
      let less = tally_one_less S n q low backs in
      let less' = tally_one_less S n i low' backs' in
      let before =
      tally_grows
      (λ p. S p && not (has p (hidden t w (l ∷ q ∷ others))))
      (λ p. S p && not (eqb p q))
      n
      (λ p _ on.
      let parts = and_parts (S p) (not (has p (hidden t w (l ∷ q ∷ others)))) on in
      and_from _ _ parts.0 (not_from_false _ (ne_eqb p q (λ e. both_ways (has p (hidden t w (l ∷ q ∷ others))) (not-true _ parts.1) (subst (λ x. has x (hidden t w (l ∷ q ∷ others)) ≡ true) (sym e) hides))))) in
      let after =
      tally_grows
      (λ p. S p && not (eqb p i))
      (λ p. S' p && not (has p (hidden t w (k ∷ i ∷ []))))
      n
      (λ p _ on.
      let parts = and_parts (S p) (not (eqb p i)) on in
      and_from _ _ (more p parts.0) (not_from_false _ (has-take (t + 2 - w) (i ∷ []) p (or_from _ _ (not-true _ parts.1) refl)))) in
      omega arith
