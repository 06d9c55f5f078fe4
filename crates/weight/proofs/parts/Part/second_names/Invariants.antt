use Rattle.weight.proofs.Gathering.{Gathered}
use Rattle.weight.proofs.parts.Part.second_names.Given as goal

abbrev pub invariant-loop-at : goal.invariant-loop-at
invariant-loop-at l = Gathered l.self.chains.setting.size l.self.chains.setting.tolerance l.self.chains.lead l.self.cells.now l.at l.backers
