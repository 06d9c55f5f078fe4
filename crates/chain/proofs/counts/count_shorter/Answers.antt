use Rattle.std.proofs.Common.{◌≡◌, suc, ◌+◌, ◌-◌, ◌*◌, sym, ap, ◌∙◌, arith}
use Rattle.chain.specs.Ranks.{ways, shorter}
use Rattle.chain.proofs.Bounds.{ways_last, shorter_low, ways_low}
use Rattle.chain.proofs.counts.count_shorter.Goals as goal

pub overflow_add-total : goal.overflow_add-total
overflow_add-total c =
    let few = c.requires.small in
    let s = shorter_low c.args.others (suc c.loop-used.used) few in
    let t = c.loop-used.invariant.0 in
    let w = c.loop-used.invariant.1 in
    omega arith

pub overflow_mul-ways : goal.overflow_mul-ways
overflow_mul-ways c =
    let w = ap (λ z. z * (c.args.others - c.loop-used.used)) c.loop-used.invariant.1 ∙ sym (ways_last c.args.others c.loop-used.used) in
    let s = ways_low c.args.others (suc c.loop-used.used) c.requires.small in
    omega arith

pub loop-used-preserved : goal.loop-used-preserved
loop-used-preserved c =
    let next : c.loop-used.used + 1 ≡ suc c.loop-used.used = omega arith in
    let t = c.loop-used.invariant.0 in
    let w = c.loop-used.invariant.1 in
    let s = ap (shorter c.args.others) next in
    (omega arith, ap (λ z. z * (c.args.others - c.loop-used.used)) w ∙ sym (ways_last c.args.others c.loop-used.used) ∙ sym (ap (ways c.args.others) next))
