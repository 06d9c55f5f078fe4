use Rattle.std.proofs.Common.{◌+◌, ◌-◌, ◌∙◌, arith}
use Rattle.chain.specs.Ranks.{shorter}
use Rattle.chain.proofs.Bounds.{shorter_low}
use Rattle.chain.proofs.Numbering.{some_chain, places}
use Rattle.chain.proofs.counts.chains_per_order.Goals as goal

pub returns : goal.returns
returns c =
    let n = c.args.setting.now.size in
    let t = c.args.setting.now.tolerance in
    let value = c.count_shorter.ensures ∙ (λ k. shorter (c.size.ensures.value k - 1) (c.tolerance.ensures.value k + 1)) in
    let some = some_chain n t in
    let most = c.args.setting.now.most in
    let few = shorter_low (n - 1) (t + 1) (omega arith) in
    record { value = value; some = omega arith; most = omega arith; places = places n t }
