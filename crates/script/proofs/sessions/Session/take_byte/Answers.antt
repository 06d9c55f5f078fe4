use Rattle.std.proofs.Common.{refl}
use Rattle.std.proofs.lemmas.Result.{IfOk-weaker}
use Rattle.script.proofs.Moves.{ended, kept}
use Rattle.script.proofs.sessions.Session.take_byte.Goals as goal

pub returns-then-b-eq10 : goal.returns-then-b-eq10
returns-then-b-eq10 c =
    IfOk-weaker c.end_line.result _ _ (λ _ h. ended _ _ _ _ _ c.if-b-eq10.true h) c.end_line.ensures

pub returns-else-b-eq10 : goal.returns-else-b-eq10
returns-else-b-eq10 c =
    IfOk-weaker c.keep_byte.result _ _ (λ _ h. kept _ _ _ _ _ c.if-b-eq10.false refl h) c.keep_byte.ensures
