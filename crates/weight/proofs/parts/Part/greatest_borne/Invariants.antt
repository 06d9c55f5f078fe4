use Rattle.std.proofs.Common.{◌-◌, ◌≤◌}
use Rattle.chain.specs.NameSets.{in_set}
use Rattle.weight.specs.Cells.{held_of}
use Rattle.weight.proofs.Searching.{NoneHeavier, NoneBefore}
use Rattle.weight.proofs.parts.Part.greatest_borne.Given as goal

abbrev pub invariant-loop-at : goal.invariant-loop-at
invariant-loop-at l = NoneBefore l.self.chains.setting.size l.self.chains.setting.tolerance l.self.chains.lead l.self.cells.now (in_set l.backers) l.weight l.at

abbrev pub invariant-search : goal.invariant-search
invariant-search l = NoneHeavier l.self.chains.setting.size l.self.chains.setting.tolerance (held_of l.self.chains l.self.cells.now) (in_set l.backers) l.weight × (2 ≤ l.weight)

abbrev pub decreases-search : goal.decreases-search
decreases-search l = l.weight - 2
