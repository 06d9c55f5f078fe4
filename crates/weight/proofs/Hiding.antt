-- How many names of a set a chain leaves, where it hides some for a weight. Assumes nothing.
use Rattle.std.proofs.Common.{◌≡◌, ℕ, ◌+◌, ◌-◌, ◌≤◌, false, not, ◌&&◌, ltb, List, take, drop, ap, ◌∙◌, arith}
use Rattle.std.proofs.lemmas.Bool.{and_left, lt-ltb}
use Rattle.counting.specs.Lists.{has, tally}
use Rattle.counting.proofs.Tallies.{tally_alike}
use Rattle.chain.specs.declared.name_sets.NameSet.{NameSet}
use Rattle.chain.specs.NameSets.{in_set}
use Rattle.weight.specs.Weights.{hidden}
use Rattle.weight.proofs.Searching.{all_in_ring}

module _ (n t w count : ℕ) (names : List ℕ) (backers gone left : NameSet) (few : n ≤ 12) (none : (q : ℕ) → n ≤ q → in_set backers q ≡ false) where
  -- what is left of the backers, where `count` names after the lead's are gone
  pub left_tally : count ≡ t + 2 - w → ((q : ℕ) → in_set gone q ≡ (ltb q 16 && has q (take count (drop 1 names)))) → ((q : ℕ) → in_set left q ≡ (in_set backers q && not (in_set gone q))) → tally (in_set left) 16 ≡ tally (λ q. in_set backers q && not (has q (hidden t w names))) n
  left_tally is hides leaves =
      all_in_ring n (in_set left) few (λ q past. leaves q ∙ and_left _ _ (none q past)) ∙
      tally_alike _ _ n (λ q low. leaves q ∙ ap (λ b. in_set backers q && not b) (hides q ∙ ap (λ b. b && has q (take count (drop 1 names))) (lt-ltb q 16 (omega arith)) ∙ ap (λ k. has q (take k (drop 1 names))) is))
