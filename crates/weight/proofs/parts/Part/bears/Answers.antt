use Rattle.std.proofs.Common.{◌+◌, ◌-◌, leb, ap, ◌∙◌}
use Rattle.weight.proofs.Hiding.{left_tally}
use Rattle.weight.proofs.parts.Part.bears.Goals as goal

pub returns : goal.returns
returns c =
    let count = c.saturating_sub-count.ensures ∙ ap (λ k. k + 2 - c.args.weight) c.tolerance.ensures.value in
    let left = left_tally _ _ c.args.weight _ c.args.names.now c.args.backers _ _ c.args.self.now.chains.setting.most c.requires count c.names_after_lead-hidden.ensures c.without.ensures in
    ap (λ k. leb c.args.weight (2 + k)) (c.len.ensures.value ∙ left)
