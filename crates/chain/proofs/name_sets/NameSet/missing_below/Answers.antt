use Rattle.std.proofs.Common.{rules}
use Rattle.chain.proofs.NameSets.{ones_missing}
use Rattle.chain.proofs.name_sets.NameSet.missing_below.Goals as goal

pub returns : goal.returns
returns c = ones_missing c.args.self.mask c.args.name (search rules) c.requires
