use Rattle.std.proofs.Common.{◌≡◌, ℕ, ◌&&◌, ltb, take}
use Rattle.counting.specs.Lists.{has}
use Rattle.chain.specs.NameSets.{in_set}
use Rattle.chain.proofs.name_sets.NameSet.of.Given as goal

abbrev pub invariant-loop-name : goal.invariant-loop-name
invariant-loop-name l = (q : ℕ) → in_set l.set q ≡ (ltb q 16 && has q (take l.name-index l.initial.names))
