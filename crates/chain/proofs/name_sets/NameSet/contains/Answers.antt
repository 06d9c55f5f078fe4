use Rattle.std.proofs.Common.{rules, sym, ◌∙◌}
use Rattle.std.proofs.lemmas.Bool.{le-ltb}
use Rattle.chain.proofs.NameSets.{past_all}
use Rattle.chain.proofs.name_sets.NameSet.contains.Goals as goal

pub returns-else-name-lt16 : goal.returns-else-name-lt16
returns-else-name-lt16 c = le-ltb c.args.name 16 c.if-name-lt16.false ∙ sym (past_all c.args.self.mask c.args.name (search rules) c.if-name-lt16.false)
