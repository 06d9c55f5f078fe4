use Rattle.chain.proofs.NameSets.{put_bit}
use Rattle.chain.proofs.name_sets.NameSet.add.Goals as goal

pub returns : goal.returns
returns c = put_bit c.args.self.now.mask c.args.name c.requires
