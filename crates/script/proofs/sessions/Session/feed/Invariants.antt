use Rattle.std.proofs.Common.{take, string_bytes}
use Rattle.script.specs.Sessions.{Moved}
use Rattle.script.proofs.sessions.Session.feed.Given as goal

abbrev pub invariant-loop-b : goal.invariant-loop-b
invariant-loop-b l = Moved l.initial.self (string_bytes l.initial.out) (take l.b-index l.piece) l.self (string_bytes l.out)
