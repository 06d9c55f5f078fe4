-- The names that a value keeps. Assumes nothing.
--   names_of   the names in their order: the front of the array, as long as the count says
use Rattle.std.specs.Prelude.{ℕ, List, take}
use Rattle.chain.specs.declared.lists.Names.{Names}

abbrev pub names_of : Names → List ℕ
names_of s = take s.count s.list
