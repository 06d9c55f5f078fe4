use Rattle.chain.proofs.Ranking.{Ranking}
use Rattle.chain.proofs.chains.Chains.rank_of.Given as goal

abbrev pub invariant-loop-name : goal.invariant-loop-name
invariant-loop-name l = Ranking l.self.setting.size l.self.lead l.rest l.name-index l.seen l.free l.rank
