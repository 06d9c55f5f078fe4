use Rattle.std.proofs.Common.{rules}
use Rattle.order.proofs.Values.{plan_back}
use Rattle.order.proofs.plans.PlanOrder.from_code.Goals as goal

pub returns : goal.returns
returns c = record { back = plan_back _ _ c.new.ensures; has = search rules }
