use Rattle.std.proofs.Common.{◌≡◌}
use Rattle.order.specs.Rankings.{earliest}
use Rattle.order.proofs.rankings.RankedChoice.choose.Given as goal

abbrev pub invariant-loop-code : goal.invariant-loop-code
invariant-loop-code l = l.best ≡ earliest l.self.ranks l.codes l.code
