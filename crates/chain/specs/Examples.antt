-- Worked examples. Assumes nothing.
--   Worked   numbers of chains and places of chains, worked out by hand
use Rattle.std.specs.Prelude.{◌≡◌, [], ◌∷◌}
use Rattle.chain.specs.Places.{per_order, place_of}

pub record Worked : Type 0 where
  pub ring_of_two : per_order 2 1 ≡ 2
  pub ring_of_four : per_order 4 2 ≡ 10
  pub ring_of_seven : per_order 7 5 ≡ 1237
  pub lead_two_one : place_of 4 2 3 (0 ∷ 2 ∷ 1 ∷ []) ≡ 36
  pub last_of_all : place_of 4 2 15 (0 ∷ 3 ∷ 2 ∷ []) ≡ 159
  pub lead_in_the_middle : place_of 4 2 0 (2 ∷ 0 ∷ 3 ∷ []) ≡ 5
