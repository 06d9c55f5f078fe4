use Rattle.std.proofs.Common.{◌/◌, sym, ap, ◌∙◌}
use Rattle.chain.specs.NameLists.{names_of}
use Rattle.chain.specs.Places.{place_of}
use Rattle.chain.proofs.FirstFaults.{some_none}
use Rattle.chain.proofs.Numbering.{apart, code_of}
use Rattle.chain.proofs.chains.Chains.at.Goals as goal

pub returns-in_err-order : goal.returns-in_err-order
returns-in_err-order g c =
    let told = c.in_err-order.ensures.back in
    rw c.from_residual-in_err-order.ensures
    (record { chain = tt; back = λ v names p is. some_none v (sym (told v (code_of _ _ _ _ _ _ p is ∙ ap (λ n. c.args.place / n) (sym c.chains_per_order-chains.ensures.value)))) })

pub returns : goal.returns
returns g c =
    let n = c.args.self.now.setting.size in
    let t = c.args.self.now.setting.tolerance in
    let place = c.args.place in
    let names = names_of c.in_ok-names.names in
    let chain = c.in_ok-names.ensures in
    let code = c.in_ok-order.ensures.has ∙ ap (λ z. place / z) c.chains_per_order-chains.ensures.value in
    let there = ap (λ z. place_of n t z names) code ∙ chain.1 in
    record {
      chain = (chain.0, there);
      back = λ v other p is. let same = apart n t c.args.self.now.lead names other chain.0 p _ _ (there ∙ sym is) in (g.met.O.Order.apart _ v same.0, same.1);
    }
