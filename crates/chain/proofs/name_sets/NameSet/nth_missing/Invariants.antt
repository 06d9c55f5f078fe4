use Rattle.std.proofs.Common.{◌≡◌, ◌+◌, not}
use Rattle.counting.specs.Lists.{tally}
use Rattle.chain.specs.NameSets.{in_set}
use Rattle.chain.proofs.name_sets.NameSet.nth_missing.Given as goal

abbrev pub invariant-loop-name : goal.invariant-loop-name
invariant-loop-name l = l.left + tally (λ q. not (in_set l.self q)) l.name ≡ l.digit
