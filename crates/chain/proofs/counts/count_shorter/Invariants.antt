use Rattle.std.proofs.Common.{◌≡◌}
use Rattle.chain.specs.Ranks.{ways, shorter}
use Rattle.chain.proofs.counts.count_shorter.Given as goal

abbrev pub invariant-loop-used : goal.invariant-loop-used
invariant-loop-used l = (l.total ≡ shorter l.others l.used) × (l.ways ≡ ways l.others l.used)
