use Rattle.protocol.proofs.Closables.{closable}
use Rattle.protocol.proofs.close_goes_on.Goals as goal

pub returns : goal.returns
returns c = closable
