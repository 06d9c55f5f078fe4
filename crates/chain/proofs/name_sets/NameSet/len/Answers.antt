use Rattle.std.proofs.Common.{rules}
use Rattle.chain.proofs.NameSets.{ones_tally}
use Rattle.chain.proofs.name_sets.NameSet.len.Goals as goal

pub returns-clause-value : goal.returns-clause-value
returns-clause-value c = ones_tally 16 c.args.self.mask (search rules)
