use Rattle.std.proofs.Common.{◌+◌, ◌*◌, ◌/◌, ◌%◌, ◌<◌, sym, ap, ◌∙◌, subst, div-add-mod', arith}
use Rattle.chain.specs.Places.{per_order}
use Rattle.chain.proofs.Numbering.{Chained, spelled_chain}
use Rattle.chain.proofs.chains.Chains.names_at.Goals as goal

pub returns : goal.returns
returns c =
    let n = c.args.self.now.setting.size in
    let t = c.args.self.now.setting.tolerance in
    let place = c.args.place in
    let all = c.chains_per_order.ensures.value in
    let low : c.args.self.now.lead < n = let l = c.if-self-size.false in let s = c.size.ensures.value in omega arith in
    let ways = c.length_at.ensures.ways in
    let names = spelled_chain n t c.args.self.now.lead c.length_at.result.others c.length_at.result.rank low c.length_at.ensures.few (subst (λ w. c.length_at.result.rank < w) ways c.length_at.ensures.rank) in
    let chain = subst (Chained n t c.args.self.now.lead c.length_at.result.others c.length_at.result.rank) (sym c.spell.ensures) names in
    let index = chain.at ∙ c.length_at.ensures.whole ∙ ap (λ z. place % z) all in
    (chain.proper, ap (λ z. place / per_order n t * per_order n t + z) index ∙ div-add-mod' place (per_order n t))
