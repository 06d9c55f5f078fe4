use Rattle.std.proofs.Common.{rules}
use Rattle.chain.proofs.NameSets.{without_bit}
use Rattle.chain.proofs.name_sets.NameSet.without.Goals as goal

pub returns : goal.returns
returns c q = without_bit c.args.self.mask c.args.other.mask q (search rules) (search rules)
