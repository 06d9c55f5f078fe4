use Rattle.std.proofs.Common.{◌+◌, [], ◌∷◌, length, rules}
use Rattle.script.specs.Forms.{following}
use Rattle.script.specs.Numerals.{numeral}
use Rattle.script.proofs.Threes.{Reached, begins, goes_on, stops, one_too_many}
use Rattle.script.proofs.forms.three_numbers.Goals as goal
use Rattle.script.proofs.forms.three_numbers.Goals.{In_ok-first, In_ok-second, In_ok-third}

first_taken : (c : In_ok-first) → Reached (c.args.rest.place + length c.args.rest.bytes.now) (following c.args.rest.place c.args.rest.bytes.now) (numeral ∷ numeral ∷ []) c.in_ok-first.rest.place c.in_ok-first.rest.bytes.now
first_taken c = goes_on _ _ _ (begins c.args.rest.place c.args.rest.bytes.now) c.in_ok-first.ensures.number c.in_ok-first.ensures.end

second_taken : (c : In_ok-second) → Reached (c.args.rest.place + length c.args.rest.bytes.now) (following c.args.rest.place c.args.rest.bytes.now) (numeral ∷ []) c.in_ok-second.rest.place c.in_ok-second.rest.bytes.now
second_taken c = goes_on _ _ _ (first_taken (goal.at.In_ok-second c).In_ok-first) c.in_ok-second.ensures.number c.in_ok-second.ensures.end

pub returns-in_err-first : goal.returns-in_err-first
returns-in_err-first c = search (rules, stops _ (begins c.args.rest.place c.args.rest.bytes.now) c.in_err-first.ensures.number)

pub returns-in_err-second : goal.returns-in_err-second
returns-in_err-second c = search (rules, stops _ (first_taken (goal.at.returns-in_err-second c).In_ok-first) c.in_err-second.ensures.number)

pub returns-in_err-third : goal.returns-in_err-third
returns-in_err-third c = search (rules, stops _ (second_taken (goal.at.returns-in_err-third c).In_ok-second) c.in_err-third.ensures.number)

pub returns-in_err-end : goal.returns-in_err-end
returns-in_err-end c =
    search (rules, one_too_many _ (goes_on _ _ _ (second_taken (goal.at.returns-in_err-end c).In_ok-second) c.in_ok-third.ensures.number c.in_ok-third.ensures.end) c.in_err-end.ensures)
