use Rattle.std.proofs.Common.{◌≡◌, ◌+◌, ◌-◌, length, take, drop, ap, ◌∙◌, arith}
use Rattle.chain.specs.Places.{within}
use Rattle.chain.specs.Ranks.{shorter}
use Rattle.chain.proofs.Numbering.{lead_and_rest, taken_apart, within_bound}
use Rattle.chain.proofs.chains.Chains.place_within.Goals as goal
use Rattle.chain.proofs.chains.Chains.place_within.Goals.{After-rank_of}

pub rank_of-requires : goal.rank_of-requires
rank_of-requires c = taken_apart _ _ _ _ c.requires

sum_is : (c : After-rank_of) → c.count_shorter.result + c.rank_of.result ≡ within c.args.self.now.setting.size c.args.names.now
sum_is c =
    let n = c.args.self.now.setting.size in
    let rest = take (length c.args.names.now - 1) (drop 1 c.args.names.now) in
    let s : c.count_shorter.result ≡ shorter (n - 1) (length rest) = c.count_shorter.ensures ∙ ap (λ z. shorter (z - 1) (length rest)) c.size.ensures.value in
    (λ k. s k + c.rank_of.ensures k) ∙ ap (within n) (lead_and_rest _ _ _ _ c.requires)

pub overflow_add-result : goal.overflow_add-result
overflow_add-result c = let s = sum_is c in let b = within_bound _ _ _ _ c.requires c.args.self.now.setting.most in omega arith
