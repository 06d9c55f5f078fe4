use Rattle.std.proofs.Common.{◌+◌, take, drop, ap, ◌∙◌, sym, subst, arith}
use Rattle.chain.proofs.Numbering.{per_order_bound}
use Rattle.chain.specs.NameLists.{names_of}
use Rattle.chain.specs.declared.name_sets.NameSet.{NameSet}
use Rattle.weight.proofs.Gathering.{Gathered, gathered_none, gathered_skip, gathered_outside, gathered_second, gathered_alone, gathered_all}
use Rattle.weight.proofs.HeldChains.{place_is_within}
use Rattle.weight.proofs.parts.Part.second_names.Goals as goal
use Rattle.weight.proofs.parts.Part.second_names.Goals.{then-self-at+in-Some+in-Some-second_of, then-self-at+in-Some+in_default-second_of, then-self-at+in_default, else-self-at}

pub loop-at-init : goal.loop-at-init
loop-at-init c = gathered_none _ _ _ _ _ c.new-backers.ensures

pub overflow_cast-at : goal.overflow_cast-at
overflow_cast-at c =
    let few = c.args.self.now.few in
    let inside = c.loop-at-test.true in
    let bound = per_order_bound c.args.self.now.chains.setting.size c.args.self.now.chains.setting.tolerance c.args.self.now.chains.setting.most in
    record { fits = omega arith }

pub loop-at-preserved : goal.loop-at-preserved
loop-at-preserved c =
    let n = c.args.self.now.chains.setting.size in
    let t = c.args.self.now.chains.setting.tolerance in
    let lead = c.args.self.now.chains.lead in
    let part = c.args.self.now.cells.now in
    let at = c.loop-at.at in
    let few = c.args.self.now.few in
    let small = c.args.self.now.chains.setting.most in
    let inside = c.loop-at-test.true in
    let g = c.loop-at.invariant in
    let next = λ (backers : NameSet). Gathered n t lead part (at + 1) backers in
    elim c.if-self-at.branch [
      | then-self-at+in-Some+in-Some-second_of w ↦
          let chain = w.in-Some.ensures in
          let here = place_is_within n t lead at (names_of w.in-Some.names) chain.0 (omega arith) chain.1 in
          let second = sym (ap (λ l. take 1 (drop 1 l)) w.as_slice.ensures.value) ∙ w.in-Some-second_of.ensures in
          subst next (sym w.backers-is) (gathered_second n t lead part at c.loop-at.backers (names_of w.in-Some.names) chain.0 small here w.if-self-at.true g _ _ second w.insert.ensures.put)
      | then-self-at+in-Some+in_default-second_of w ↦
          let chain = w.in-Some.ensures in
          let here = place_is_within n t lead at (names_of w.in-Some.names) chain.0 (omega arith) chain.1 in
          let none = sym (ap (λ l. take 1 (drop 1 l)) w.as_slice.ensures.value) ∙ w.in_default-second_of.ensures in
          subst next (sym w.backers-is) (gathered_alone n t lead part at c.loop-at.backers (names_of w.in-Some.names) chain.0 small here w.if-self-at.true g none)
      | then-self-at+in_default w ↦ subst next (sym w.backers-is) (gathered_outside n t lead part at c.loop-at.backers w.in_default.ensures g)
      | else-self-at w ↦ subst next (sym w.backers-is) (gathered_skip n t lead part at c.loop-at.backers w.if-self-at.false g)
    ]

pub returns : goal.returns
returns c = gathered_all _ _ _ _ _ _ c.loop-at-test.false c.loop-at.invariant
