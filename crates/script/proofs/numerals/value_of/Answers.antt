use Rattle.std.proofs.Common.{◌∙◌, sym, rules, tests}
use Rattle.std.proofs.lemmas.Iterator.{YieldsList-from_slice}
use Rattle.std.proofs.lemmas.Iterator.Consumers.{YieldsList-from_copied}
use Rattle.script.proofs.Values.{sum_folded, read_plain}
use Rattle.script.proofs.numerals.value_of.Goals as goal

pub returns : goal.returns
returns c =
    sum_folded _ _ _ c.try_fold.ensures.ran (YieldsList-from_copied (YieldsList-from_slice c.args.digits.now cc)) (λ n x w q. search (rules, tests)) ∙ read_plain c.args.digits.now (sym c.if-not-is_plain.ensures)
