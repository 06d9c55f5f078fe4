use Rattle.protocol.proofs.Promise.{promised}
use Rattle.protocol.proofs.promise_holds.Goals as goal

pub returns : goal.returns
returns c = promised
