use Rattle.std.proofs.Common.{rules}
use Rattle.chain.proofs.NameSets.{some_bit}
use Rattle.chain.proofs.name_sets.NameSet.is_empty.Goals as goal

pub returns-clause-some : goal.returns-clause-some
returns-clause-some c = some_bit c.args.self.mask (search rules)
