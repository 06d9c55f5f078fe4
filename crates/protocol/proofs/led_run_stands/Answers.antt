use Rattle.protocol.proofs.Led.Run.{led_run}
use Rattle.protocol.proofs.led_run_stands.Goals as goal

pub returns : goal.returns
returns c = led_run
