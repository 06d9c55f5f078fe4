use Rattle.std.proofs.Common.{refl}
use Rattle.order.proofs.Values.{link_back, link_has}
use Rattle.order.proofs.links.LinkOrderOrder.from_code.Goals as goal

pub returns : goal.returns
returns c = record { back = link_back _ _ _ refl c.new.ensures; has = link_has _ _ _ refl c.new.ensures }
