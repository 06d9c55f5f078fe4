use Rattle.protocol.proofs.Worked.Run.{worked_run}
use Rattle.protocol.proofs.run_stands.Goals as goal

pub returns : goal.returns
returns c = worked_run
