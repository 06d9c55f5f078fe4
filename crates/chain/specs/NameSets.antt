-- Sets of names. Assumes nothing.
--   in_set   a name is in a set: its bit of the mask is set
use Rattle.std.specs.Prelude.{ℕ, Bool}
use Rattle.order.specs.Sets.{has}
use Rattle.chain.specs.declared.name_sets.NameSet.{NameSet}

abbrev pub in_set : NameSet → ℕ → Bool
in_set s q = has s.mask q
