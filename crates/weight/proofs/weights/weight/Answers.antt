use Rattle.std.proofs.Common.{arith}
use Rattle.weight.proofs.Examples.{worked}
use Rattle.weight.proofs.Smaller.{smaller}
use Rattle.weight.proofs.Weighing.{weighs_nothing, weighs_held, among_all, no_order}
use Rattle.weight.proofs.weights.weight.Goals as goal

pub returns-then-code-ge-MOST_CODES : goal.returns-then-code-ge-MOST_CODES
returns-then-code-ge-MOST_CODES c = record { greatest = no_order _ _ _ _ _ c.if-code-ge-MOST_CODES.true; smaller = smaller _ _; worked = worked }

pub returns-then-is_empty : goal.returns-then-is_empty
returns-then-is_empty c =
    let low = c.if-code-ge-MOST_CODES.false in
    let weighs = weighs_nothing _ _ _ _ _ c.second_names-backers.ensures (c.is_empty.ensures.none c.if-is_empty.true) in
    record { greatest = among_all _ c.of-part.result _ _ _ c.of-part.ensures.chains (omega arith) c.of-part.ensures.same weighs; smaller = smaller _ _; worked = worked }

pub returns : goal.returns
returns c =
    let low = c.if-code-ge-MOST_CODES.false in
    let weighs = weighs_held _ _ _ _ _ c.second_names-backers.ensures _ c.greatest_borne.ensures.reached c.greatest_borne.ensures.most in
    record { greatest = among_all _ c.of-part.result _ _ _ c.of-part.ensures.chains (omega arith) c.of-part.ensures.same weighs; smaller = smaller _ _; worked = worked }
