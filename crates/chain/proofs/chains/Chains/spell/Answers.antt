use Rattle.std.proofs.Common.{◌-◌, sym, ap, ◌∙◌, arith}
use Rattle.chain.specs.Ranks.{ways}
use Rattle.chain.proofs.Spelling.{spelling_none, free_some, divided_some, enough, spelling_more}
use Rattle.chain.proofs.chains.Chains.spell.Goals as goal

pub loop-init : goal.loop-init
loop-init c =
    let is = c.size-size.ensures.value in
    let low = c.requires.leads in
    spelling_none _ _ _ _ _ _ _ c.of_lead-names.ensures c.of-seen.ensures (omega arith) c.size-size.ensures.most (c.requires.all ∙ sym (ap (λ n. ways (n - 1) c.args.among.others) is)) c.requires.below

pub nonzero_div-ways : goal.nonzero_div-ways
nonzero_div-ways c = free_some _ _ _ _ _ _ _ _ _ _ c.loop.invariant c.loop-test.true

pub nonzero_div-rank : goal.nonzero_div-rank
nonzero_div-rank c = divided_some _ _ _ _ _ _ _ _ _ _ c.loop.invariant c.loop-test.true

pub nth_missing-name-requires : goal.nth_missing-name-requires
nth_missing-name-requires c = record { small = omega (arith, c.size-size.ensures.most); enough = enough _ _ _ _ _ _ _ _ _ _ c.loop.invariant c.loop-test.true }

pub nonzero_rem-rank : goal.nonzero_rem-rank
nonzero_rem-rank c = divided_some _ _ _ _ _ _ _ _ _ _ c.loop.invariant c.loop-test.true

pub overflow_sub-free-in-loop : goal.overflow_sub-free-in-loop
overflow_sub-free-in-loop c = free_some _ _ _ _ _ _ _ _ _ _ c.loop.invariant c.loop-test.true

pub loop-preserved : goal.loop-preserved
loop-preserved c = spelling_more _ _ _ _ _ _ _ _ _ _ c.loop.invariant c.loop-test.true _ c.nth_missing-name.ensures.low c.nth_missing-name.ensures.new c.nth_missing-name.ensures.place _ _ c.push.ensures (λ _. c.add.ensures) c.size-size.ensures.most
