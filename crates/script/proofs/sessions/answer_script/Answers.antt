use Rattle.std.proofs.Common.{[], ◌++◌, ◌∙◌, append-nil}
use Rattle.script.specs.Sessions.{due}
use Rattle.script.proofs.sessions.answer_script.Goals as goal

pub returns : goal.returns
returns c =
    let written = c.in_ok-finish.ensures ∙ c.in_ok-feed.ensures.writes [] in
    written ∙ (λ k. c.new-out.ensures.bytes k ++ due c.new-session.result (append-nil c.args.script.now k)) ∙ c.new-session.ensures.writes c.args.script.now
