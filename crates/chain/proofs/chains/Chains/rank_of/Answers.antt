use Rattle.std.proofs.Common.{◌≡◌, ◌-◌, sym, refl, ap, subst, arith}
use Rattle.chain.proofs.Ranking.{Ranking, ranking_none, free_some, next_low, next_ranking}
use Rattle.chain.proofs.chains.Chains.rank_of.Goals as goal

pub loop-name-init : goal.loop-name-init
loop-name-init c =
    let free : c.args.self.now.setting.size - 1 ≡ c.size-free.result - 1 = ap (λ n. n - 1) (sym c.size-free.ensures.value) in
    subst (λ f. Ranking c.args.self.now.setting.size c.args.self.now.lead c.args.rest.now 0 c.of-seen.result f 0) free (ranking_none _ _ _ _ c.requires c.args.self.now.setting.most _ c.of-seen.ensures)

pub overflow_mul-rank : goal.overflow_mul-rank
overflow_mul-rank c = let l = next_low _ _ _ _ _ _ _ c.loop-name.invariant c.loop-name-test.true _ refl in omega arith

pub overflow_add-rank : goal.overflow_add-rank
overflow_add-rank c = let l = next_low _ _ _ _ _ _ _ c.loop-name.invariant c.loop-name-test.true _ c.missing_below.ensures in omega arith

pub overflow_sub-free-in-loop-name : goal.overflow_sub-free-in-loop-name
overflow_sub-free-in-loop-name c = free_some _ _ _ _ _ _ _ c.loop-name.invariant c.loop-name-test.true

pub loop-name-preserved : goal.loop-name-preserved
loop-name-preserved c = next_ranking _ _ _ _ _ _ _ c.loop-name.invariant c.loop-name-test.true _ c.missing_below.ensures _ c.args.self.now.setting.most (λ _. c.add.ensures)
