use Rattle.std.proofs.Common.{◌+◌, length, rules}
use Rattle.script.proofs.Threes.{second_wrong, third_wrong}
use Rattle.script.proofs.forms.read_quote.Goals as goal

pub returns-in_err-tolerance : goal.returns-in_err-tolerance
returns-in_err-tolerance c =
    search (rules, second_wrong (c.args.rest.place + length c.args.rest.bytes.now) _ _ _ _ c.in_ok-size.ensures _ c.in_ok-size-2.ensures _ c.in_err-tolerance.ensures)

pub returns-in_err-sound : goal.returns-in_err-sound
returns-in_err-sound c =
    search (rules, third_wrong (c.args.rest.place + length c.args.rest.bytes.now) _ _ _ _ c.in_ok-size.ensures _ c.in_ok-size-2.ensures _ _ c.in_ok-tolerance.ensures c.in_err-sound.ensures)
