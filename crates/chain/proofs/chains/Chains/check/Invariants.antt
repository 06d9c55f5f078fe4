use Rattle.chain.proofs.Seen.{Scanned}
use Rattle.chain.proofs.chains.Chains.check.Given as goal

abbrev pub invariant-loop-i : goal.invariant-loop-i
invariant-loop-i l = Scanned l.self.setting.size l.self.lead l.names l.i l.seen
