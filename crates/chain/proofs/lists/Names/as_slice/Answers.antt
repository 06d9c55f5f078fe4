use Rattle.chain.proofs.NameLists.{same_value}
use Rattle.chain.proofs.lists.Names.as_slice.Goals as goal

pub returns-clause-same : goal.returns-clause-same
returns-clause-same c other is = same_value other c.args.self.now is
