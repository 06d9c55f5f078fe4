use Rattle.std.proofs.Common.{◌<◌, arith}
use Rattle.order.proofs.FirstBits.{least_empty, least_first, none_below}
use Rattle.order.proofs.lowest.LeastChoice.choose.Goals as goal

pub returns-then-codes-eq0 : goal.returns-then-codes-eq0
returns-then-codes-eq0 c = record { value = least_empty c.args.codes c.if-codes-eq0.true; smallest = tt }

pub returns-else-codes-eq0 : goal.returns-else-codes-eq0
returns-else-codes-eq0 c =
    let some : 0 < c.args.codes = omega (arith, c.if-codes-eq0.false) in
    record { value = least_first c.args.codes some c.ranges.codes.fits; smallest = none_below c.args.codes some c.ranges.codes.fits }
