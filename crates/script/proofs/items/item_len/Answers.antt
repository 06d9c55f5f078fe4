use Rattle.std.proofs.Common.{arith}
use Rattle.std.proofs.lemmas.Grind.{common_steps}
use Rattle.script.proofs.items.item_len.Goals as goal
use Rattle.script.proofs.items.item_len.Goals.{else-depth-eq0-via-then-depth-eq0+else-b-eq32, else-depth-eq0-via-else-depth-eq0}

pub loop-i-preserved : goal.loop-i-preserved
loop-i-preserved c =
    elim c.else-depth-eq0.branch [
      | else-depth-eq0-via-then-depth-eq0+else-b-eq32 w ↦ grind (arith, common_steps)
      | else-depth-eq0-via-else-depth-eq0 w ↦ grind (arith, common_steps)
    ]
