use Rattle.std.proofs.Common.{◌-◌}
use Rattle.chain.proofs.Spelling.{Shortened}
use Rattle.chain.proofs.chains.Chains.length_at.Given as goal

abbrev pub invariant-loop-among : goal.invariant-loop-among
invariant-loop-among l = Shortened l.free l.self.setting.tolerance l.index l.among.others l.among.rank l.among.ways

abbrev pub decreases-loop-among : goal.decreases-loop-among
decreases-loop-among l = l.self.setting.tolerance - l.among.others
