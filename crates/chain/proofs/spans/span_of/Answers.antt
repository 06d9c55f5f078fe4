use Rattle.std.proofs.Common.{rules, ◌≡◌, ◌+◌, ◌-◌, ◌*◌, ◌≤◌, ap, ◌∙◌, arith}
use Rattle.chain.specs.Places.{per_order}
use Rattle.chain.specs.Ranks.{shorter}
use Rattle.chain.proofs.Bounds.{shorter_low}
use Rattle.chain.proofs.Numbering.{code_bound, spans_at}
use Rattle.chain.proofs.spans.span_of.Given.{Over}
use Rattle.chain.proofs.spans.span_of.Goals as goal
use Rattle.chain.proofs.spans.span_of.Goals.{After-chains_per_order}

-- the first place of the code
first_is : (g : Over) (c : After-chains_per_order g) → c.code.result * c.chains_per_order.result ≡ g.O.Order.coded c.args.order.now * per_order c.args.setting.now.size c.args.setting.now.tolerance
first_is g c = λ k. c.code.ensures k * c.chains_per_order.ensures.value k

first_low : (g : Over) (c : After-chains_per_order g) → c.code.result * c.chains_per_order.result ≤ 1736081792
first_low g c =
    let e = first_is g c in
    let b = code_bound c.args.setting.now.size c.args.setting.now.tolerance _ _ (g.met.O.Order.below c.args.order.now) g.met.O.Order.few c.args.setting.now.most in
    omega arith

pub overflow_add-result : goal.overflow_add-result
overflow_add-result g c =
    let l = first_low g (goal.at.overflow_add-result g c).After-chains_per_order in
    let few = c.size-others.ensures.most in
    let b = shorter_low (c.size-others.result - 1) (c.args.count - 1) (omega arith) in
    let e = c.count_shorter.ensures in
    omega arith

pub overflow_add-result-2 : goal.overflow_add-result-2
overflow_add-result-2 g c =
    let l = first_low g (goal.at.overflow_add-result-2 g c).After-chains_per_order in
    let few = c.size-others.ensures.most in
    let b = shorter_low (c.size-others.result - 1) c.args.count (omega arith) in
    let e = c.count_shorter-2.ensures in
    omega arith

pub returns : goal.returns
returns g c =
    let n = c.args.setting.now.size in
    let t = c.args.setting.now.tolerance in
    let code = g.O.Order.coded c.args.order.now in
    let first = first_is g (goal.at.returns g c).After-chains_per_order in
    let size = c.size-others.ensures.value in
    let low = c.count_shorter.ensures ∙ ap (λ z. shorter (z - 1) (c.args.count - 1)) size in
    let high = c.count_shorter-2.ensures ∙ ap (λ z. shorter (z - 1) c.args.count) size in
    let start : c.code.result * c.chains_per_order.result + c.count_shorter.result ≡ code * per_order n t + shorter (n - 1) (c.args.count - 1) = λ k. first k + low k in
    let end : c.code.result * c.chains_per_order.result + c.count_shorter-2.result ≡ code * per_order n t + shorter (n - 1) c.args.count = λ k. first k + high k in
    let inside : (1 ≤ c.args.count) × (c.args.count ≤ t + 1) = search rules in
    record {
      value = (start, end);
      some = inside;
      spans = λ lead. spans_at n t lead code c.args.count _ _ start end inside.0 inside.1;
    }
