use Rattle.std.proofs.Common.{sym, refl, arith, rules}
use Rattle.counting.proofs.Tallies.{tally_none}
use Rattle.scheme.proofs.GridLaws.{no_bit}
use Rattle.scheme.proofs.grids.Grid.new.Goals as goal

pub invariant_of-result-clause-tallied : goal.invariant_of-result-clause-tallied
invariant_of-result-clause-tallied c = sym (tally_none _ c.args.count (λ p _. no_bit 256 p))

pub returns : goal.returns
returns c = (search rules, refl, λ p. grind (arith, no_bit 256 p))
