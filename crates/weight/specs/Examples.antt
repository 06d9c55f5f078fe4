-- Worked examples: weights of chains that are written out, reckoned by hand. The lead is 0. Assumes nothing.
--   among    the held chains are those of a list
--   Worked   in a ring of n switches that tolerates t faulty ones, the chains of the list have the weight named; and a chain
--            of three names alone puts its second name into S
use Rattle.std.specs.Prelude.{ℕ, Bool, false, ◌||◌, List, [], ◌∷◌, nat_eq}
use Rattle.counting.specs.Lists.{alike}
use Rattle.weight.specs.Weights.{Seconds, Weight}

abbrev pub among : List (List ℕ) → List ℕ → Bool
among [] names = false
among (chain ∷ chains) names = alike names chain || among chains names

pub record Worked : Type 0 where
  -- n = 4, t = 1
  pub three_backers : Weight 4 1 (among ((0 ∷ 1 ∷ []) ∷ (0 ∷ 2 ∷ []) ∷ (0 ∷ 3 ∷ []) ∷ [])) 5
  -- n = 4, t = 3
  pub two_backers : Weight 4 3 (among ((0 ∷ 1 ∷ []) ∷ (0 ∷ 2 ∷ []) ∷ [])) 3
  -- n = 5, t = 4: two backers each, but not the same weight
  pub one_shows_the_other : Weight 5 4 (among ((0 ∷ 1 ∷ 2 ∷ []) ∷ (0 ∷ 2 ∷ 3 ∷ []) ∷ [])) 3
  pub each_hides_the_other : Weight 5 4 (among ((0 ∷ 1 ∷ 2 ∷ []) ∷ (0 ∷ 2 ∷ 1 ∷ []) ∷ [])) 2
  pub second_of_three : Seconds (among ((0 ∷ 1 ∷ 2 ∷ []) ∷ [])) (λ q. nat_eq q 1)
