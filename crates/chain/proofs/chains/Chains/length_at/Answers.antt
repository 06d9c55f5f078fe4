use Rattle.std.proofs.Common.{◌+◌, ◌-◌, ◌<◌, sym, subst, arith}
use Rattle.chain.specs.Ranks.{shorter}
use Rattle.chain.proofs.Spelling.{shortened_more, more_ways_low}
use Rattle.chain.proofs.chains.Chains.length_at.Goals as goal
use Rattle.chain.proofs.chains.Chains.length_at.Goals.{In-loop-among}

-- the index is below the number of all chains
low : (c : In-loop-among) → c.args.index < shorter (c.size-free.result - 1) (c.args.self.now.setting.tolerance + 1)
low c = subst (λ n. c.args.index < shorter (n - 1) (c.args.self.now.setting.tolerance + 1)) (sym c.size-free.ensures.value) c.requires

pub overflow_mul-among : goal.overflow_mul-among
overflow_mul-among c =
    let most = c.size-free.ensures.most in
    let m = more_ways_low _ _ _ _ _ _ c.loop-among.invariant (low (goal.at.overflow_mul-among c).In-loop-among) c.loop-among-test.true (omega arith) in
    omega arith

pub loop-among-preserved : goal.loop-among-preserved
loop-among-preserved c = shortened_more _ _ _ _ _ _ c.loop-among.invariant (low (goal.at.loop-among-preserved c).In-loop-among) c.loop-among-test.true
