use Rattle.std.proofs.Common.{◌≡◌, ◌+◌, not, ◌&&◌, leb, sym, ◌∙◌, subst, arith}
use Rattle.std.proofs.lemmas.Bool.{leb-true, leb-false}
use Rattle.counting.specs.Lists.{has, tally}
use Rattle.chain.proofs.Numbering.{same_names}
use Rattle.chain.specs.NameLists.{names_of}
use Rattle.chain.specs.NameSets.{in_set}
use Rattle.weight.specs.Weights.{hidden, Bears}
use Rattle.weight.proofs.HeldChains.{place_is_within}
use Rattle.weight.proofs.parts.Part.bears_at.Goals as goal

pub returns-in-Some : goal.returns-in-Some
returns-in-Some c =
    let n = c.args.self.now.chains.setting.size in
    let t = c.args.self.now.chains.setting.tolerance in
    let names = names_of c.in-Some.names in
    let chain = c.in-Some.ensures in
    let here = place_is_within n t c.args.self.now.chains.lead c.args.at names chain.0 c.requires.there chain.1 in
    let bearing = subst (λ l. c.bears.result ≡ leb c.args.weight (2 + tally (λ q. in_set c.args.backers q && not (has q (hidden t c.args.weight l))) n)) c.as_slice.ensures.value c.bears.ensures in
    record {
      some = λ on. (names, chain.0, here, leb-true _ _ (sym bearing ∙ on));
      none = λ off other p is bears.
          let same = same_names n t c.args.self.now.chains.lead other names p chain.0 (is ∙ sym here) in
          let heavy = subst (λ l. Bears n t (in_set c.args.backers) c.args.weight l) same bears in
          let light = leb-false _ _ (sym bearing ∙ off) in
          omega arith;
    }
