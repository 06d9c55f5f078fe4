use Rattle.std.proofs.Common.{string_bytes, sym, subst}
use Rattle.std.proofs.lemmas.List.{take_all, take_more}
use Rattle.script.specs.Sessions.{Moved}
use Rattle.script.proofs.Moves.{moved_none, moved_more}
use Rattle.script.proofs.sessions.Session.feed.Goals as goal

pub loop-b-init : goal.loop-b-init
loop-b-init c = moved_none c.args.self.now (string_bytes c.args.out.now)

pub loop-b-preserved : goal.loop-b-preserved
loop-b-preserved c =
    subst (λ l. Moved c.args.self.now (string_bytes c.args.out.now) l c.take_byte.new.self (string_bytes c.take_byte.new.out))
    (sym (take_more c.args.piece.now c.loop-b.b-index 0 c.loop-b-test.true))
    (moved_more _ _ _ _ _ _ _ _ c.loop-b.invariant c.in_ok-take_byte.ensures)

pub returns : goal.returns
returns c =
    subst (λ l. Moved c.args.self.now (string_bytes c.args.out.now) l c.loop-b.self (string_bytes c.loop-b.out))
    (take_all c.loop-b.b-index c.args.piece.now c.loop-b-test.false) c.loop-b.invariant
