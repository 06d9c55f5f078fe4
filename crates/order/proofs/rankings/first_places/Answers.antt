use Rattle.std.proofs.Common.{rules, refl}
use Rattle.order.proofs.Places.{table_none, table_set, table_kept, table_full}
use Rattle.order.proofs.rankings.first_places.Goals as goal

pub loop-place-init : goal.loop-place-init
loop-place-init c = table_none _ _ c.requires refl (search rules)

pub loop-place-preserved-then-code-lt16 : goal.loop-place-preserved-then-code-lt16
loop-place-preserved-then-code-lt16 c = table_set _ _ _ c.requires c.loop-place-test.true c.loop-place.auto.place c.loop-place.invariant c.if-code-lt16.true

pub loop-place-preserved : goal.loop-place-preserved
loop-place-preserved c = table_kept _ _ _ c.requires c.loop-place-test.true c.loop-place.auto.place c.loop-place.invariant c.if-code-lt16.false

pub returns : goal.returns
returns c = table_full _ _ _ c.loop-place-test.false c.loop-place.invariant
