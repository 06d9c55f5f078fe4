use Rattle.scheme.proofs.GridLaws.{bits_counted}
use Rattle.scheme.proofs.grids.marking.GridScheme.entries.Goals as goal

pub returns : goal.returns
returns c = bits_counted c.args.self.now
