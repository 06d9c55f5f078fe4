use Rattle.std.proofs.Common.{rules, refl}
use Rattle.order.proofs.Places.{one_missing, all_placed}
use Rattle.order.proofs.rankings.Ranked.new.Goals as goal

pub returns-then-list-rank : goal.returns-then-list-rank
returns-then-list-rank c = (refl, one_missing _ _ c.if-list-ne16.false c.first_places-ranks.ensures c.loop-code.code c.loop-code-test.true c.if-list-rank.true)

pub returns : goal.returns
returns c = all_placed _ _ c.if-list-ne16.false c.first_places-ranks.ensures c.loop-code.code (search rules) c.loop-code.invariant
