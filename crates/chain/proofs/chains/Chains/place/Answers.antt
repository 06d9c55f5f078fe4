use Rattle.std.proofs.Common.{◌≡◌, ◌+◌, ◌*◌, arith}
use Rattle.std.proofs.lemmas.Result.{err_from_is_err_and}
use Rattle.chain.specs.Places.{place_of}
use Rattle.chain.proofs.Examples.{worked}
use Rattle.chain.proofs.Numbering.{place_below, place_bound, places}
use Rattle.chain.proofs.chains.Chains.place.Given.{Over}
use Rattle.chain.proofs.chains.Chains.place.Goals as goal
use Rattle.chain.proofs.chains.Chains.place.Goals.{After-place_within}

pub returns-in_err-check : goal.returns-in_err-check
returns-in_err-check g c =
    let p = err_from_is_err_and c.from_residual.result c.from_residual.ensures.1 in
    rw (p.1, p.2) (record { value = c.in_err-check.ensures.value; below = tt; places = places _ _ _; worked = worked })

place_is : (g : Over) (c : After-place_within g) → c.code.result * c.chains_per_order.result + c.place_within.result ≡ place_of c.args.self.now.setting.size c.args.self.now.setting.tolerance (g.O.Order.coded c.args.order.now) c.args.names.now
place_is g c = λ k. c.code.ensures k * c.chains_per_order.ensures.value k + c.place_within.ensures k

pub overflow_add-result : goal.overflow_add-result
overflow_add-result g c =
    let b = place_bound _ _ _ _ c.in_ok-check.ensures.proper _ _ (g.met.O.Order.below c.args.order.now) g.met.O.Order.few c.args.self.now.setting.most in
    let e = place_is g c in
    omega arith

pub returns : goal.returns
returns g c =
    let e = place_is g c in
    record {
      value = (c.in_ok-check.ensures.value, e);
      below = let b = place_below _ _ _ _ c.in_ok-check.ensures.proper _ _ (g.met.O.Order.below c.args.order.now) in omega arith;
      places = places _ _ _;
      worked = worked;
    }
