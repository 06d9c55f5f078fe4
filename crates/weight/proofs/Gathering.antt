-- Gathering the second names of the taken chains, place by place. Assumes nothing.
--   Gathered   the places below `at` have been looked at: S has the second names of the chains there, and no others
use Rattle.std.proofs.Common.{◌≡◌, ℕ, ◌+◌, ◌<◌, ◌≤◌, true, false, ◌||◌, eqb, get_or, List, [], ◌∷◌, length, take, drop, sym, refl, ap, ◌∙◌, subst, ⊎_elim, arith}
use mathlib.Core.Bool.{or-false}
use Rattle.std.proofs.lemmas.Bool.{true≢false, cases_lt, or_cases, or_left, or_right, eqb-true, eq-eqb}
use Rattle.counting.specs.Lists.{has}
use Rattle.counting.proofs.Prefixes.{below-take, below-drop}
use Rattle.counting.proofs.Pushes.{below_at}
use Rattle.chain.specs.declared.name_sets.NameSet.{NameSet}
use Rattle.chain.specs.NameSets.{in_set}
use Rattle.chain.specs.Chains.{Proper}
use Rattle.chain.specs.Places.{within}
use Rattle.chain.proofs.Numbering.{lead_low, same_names}
use Rattle.weight.specs.declared.cells.Cell.{Cell}
use Rattle.weight.specs.Cells.{taken_at, held_in}
use Rattle.weight.specs.Weights.{Seconds}
use Rattle.weight.proofs.HeldChains.{held_proper, held_taken, held_from, held_inside, long_within}

pub record Gathered (n t lead : ℕ) (part : List Cell) (at : ℕ) (seconds : NameSet) : Type 0 where
  pub each : (l q : ℕ) (rest : List ℕ) → held_in n t lead part (l ∷ q ∷ rest) ≡ true → within n (l ∷ q ∷ rest) < at → in_set seconds q ≡ true
  pub only : (q : ℕ) → in_set seconds q ≡ true → (l : ℕ) × (rest : List ℕ) × (held_in n t lead part (l ∷ q ∷ rest) ≡ true)

module _ (n t lead : ℕ) (part : List Cell) where
  -- the first place is that of the chain of the lead alone
  pub gathered_none : (seconds : NameSet) → ((q : ℕ) → in_set seconds q ≡ false) → Gathered n t lead part 1 seconds
  gathered_none seconds none =
      record {
        each = λ l q rest held first. let past = long_within n t lead (l ∷ q ∷ rest) (held_proper n t lead part _ held) (omega arith) in absurd (omega arith);
        only = λ q on. absurd (true≢false (sym on ∙ none q));
      }

  -- nothing is taken at this place
  pub gathered_skip : (at : ℕ) (seconds : NameSet) → taken_at part at ≡ false → Gathered n t lead part at seconds → Gathered n t lead part (at + 1) seconds
  gathered_skip at seconds off g =
      record {
        each = λ l q rest held low. ⊎_elim (λ before. g.each l q rest held before) (λ past. let here : within n (l ∷ q ∷ rest) ≡ at = omega arith in absurd (true≢false (sym (held_taken n t lead part (l ∷ q ∷ rest) held) ∙ ap (taken_at part) here ∙ off))) (cases_lt (within n (l ∷ q ∷ rest)) at);
        only = g.only;
      }

  -- a lead that is not of the ring has no chains
  pub gathered_outside : (at : ℕ) (seconds : NameSet) → n ≤ lead → Gathered n t lead part at seconds → Gathered n t lead part (at + 1) seconds
  gathered_outside at seconds outside g =
      record {
        each = λ l q rest held low. let inside = lead_low n t lead (l ∷ q ∷ rest) (held_proper n t lead part (l ∷ q ∷ rest) held) in absurd (omega arith);
        only = g.only;
      }

  -- the chain of this place is taken
  module _ (at : ℕ) (seconds seconds' : NameSet) (names : List ℕ) (p : Proper n t lead names) (here : within n names ≡ at) (taken : taken_at part at ≡ true) (put : (q : ℕ) → in_set seconds' q ≡ (has q (take 1 (drop 1 names)) || in_set seconds q)) (g : Gathered n t lead part at seconds) where
    held : held_in n t lead part names ≡ true
    held = held_from n t lead part names p (ap (taken_at part) here ∙ taken)

    second_each : (l q : ℕ) (rest : List ℕ) → held_in n t lead part (l ∷ q ∷ rest) ≡ true → within n (l ∷ q ∷ rest) < at + 1 → in_set seconds' q ≡ true
    second_each l q rest on next =
        put q ∙
        ⊎_elim
        (λ before. or_right _ _ (g.each l q rest on before))
        (λ past.
        let there : within n names ≡ within n (l ∷ q ∷ rest) = omega arith in
        let same = same_names n t lead names (l ∷ q ∷ rest) p (held_proper n t lead part _ on) there in
        or_left _ _ (ap (λ xs. has q (take 1 (drop 1 xs))) same ∙ or_left _ _ (eq-eqb q q refl)))
        (cases_lt (within n (l ∷ q ∷ rest)) at)

    second_is : (q : ℕ) (xs : List ℕ) → held_in n t lead part xs ≡ true → has q (take 1 (drop 1 xs)) ≡ true → (l : ℕ) × (rest : List ℕ) × (held_in n t lead part (l ∷ q ∷ rest) ≡ true)
    second_is q [] on in_it = absurd (true≢false (sym in_it))
    second_is q (l ∷ []) on in_it = absurd (true≢false (sym in_it))
    second_is q (l ∷ x ∷ rest) on in_it =
        let same : q ≡ x = ⊎_elim (λ e. eqb-true q x e) (λ none. absurd (true≢false (sym none))) (or_cases (eqb q x) false in_it) in
        (l, rest, subst (λ y. held_in n t lead part (l ∷ y ∷ rest) ≡ true) (sym same) on)

    gathered_more : Gathered n t lead part (at + 1) seconds'
    gathered_more =
        record {
          each = second_each;
          only = λ q on. ⊎_elim (λ new. second_is q names held new) (λ old. g.only q old) (or_cases (has q (take 1 (drop 1 names))) (in_set seconds q) (sym (put q) ∙ on));
        }

  -- its second name goes into the set, if it has one
  module _ (at : ℕ) (seconds : NameSet) (names : List ℕ) (p : Proper n t lead names) (few : n ≤ 12) (here : within n names ≡ at) (taken : taken_at part at ≡ true) (g : Gathered n t lead part at seconds) where
    pub gathered_second : (second : ℕ) (seconds' : NameSet) → take 1 (drop 1 names) ≡ second ∷ [] → (second < 16 → (q : ℕ) → in_set seconds' q ≡ (eqb q second || in_set seconds q)) → Gathered n t lead part (at + 1) seconds'
    gathered_second second seconds' is put =
        let low = below_at n (take 1 (drop 1 names)) 0 (below-take n 1 (drop 1 names) (below-drop n 1 names p.within)) (let l = ap length is in omega arith) in
        let same = ap (λ xs. get_or xs 0 0) is in
        gathered_more at seconds seconds' names p here taken (λ q. put (omega arith) q ∙ sym (ap (λ xs. has q xs || in_set seconds q) is ∙ ap (λ b. b || in_set seconds q) (or-false (eqb q second)))) g

    pub gathered_alone : take 1 (drop 1 names) ≡ [] → Gathered n t lead part (at + 1) seconds
    gathered_alone none = gathered_more at seconds seconds names p here taken (λ q. sym (ap (λ xs. has q xs || in_set seconds q) none)) g

  -- all places have been looked at
  pub gathered_all : (at : ℕ) (seconds : NameSet) → length part ≤ at → Gathered n t lead part at seconds → Seconds (held_in n t lead part) (in_set seconds)
  gathered_all at seconds end g =
      record {
        each = λ l q rest held. let inside = held_inside n t lead part (l ∷ q ∷ rest) held in g.each l q rest held (omega arith);
        only = g.only;
      }
