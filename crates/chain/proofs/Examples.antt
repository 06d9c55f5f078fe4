-- The worked examples hold of the definitions. Assumes nothing.
use Rattle.std.proofs.Common.{refl}
use Rattle.chain.specs.Examples.{Worked}

pub worked : Worked
worked = record { ring_of_two = refl; ring_of_four = refl; ring_of_seven = refl; lead_two_one = refl; last_of_all = refl; lead_in_the_middle = refl }
