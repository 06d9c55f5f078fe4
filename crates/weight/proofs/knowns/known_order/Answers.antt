use Rattle.std.proofs.Common.{length, ◌≤◌, ◌+◌, ◌<◌, sym, subst, arith}
use Rattle.chain.specs.declared.chains.Chains.{Chains}
use Rattle.chain.specs.OfRing.{many}
use Rattle.weight.specs.declared.knowns.Known.{Known}
use Rattle.weight.specs.Cells.{holds}
use Rattle.weight.proofs.Knowing.{KnownBelow, some_held, none_held, nothing_new, first_known, two_known}
use Rattle.weight.proofs.knowns.known_order.Goals as goal
use Rattle.weight.proofs.knowns.known_order.Goals.{then-any_taken+in-Nothing, else-any_taken}

pub returns-in_default : goal.returns-in_default
returns-in_default c =
    let n = c.args.chains.now.setting.size in
    let t = c.args.chains.now.setting.tolerance in
    let lead = c.args.chains.now.lead in
    let cells = c.args.cells.now in
    let code = c.loop-code.code in
    let size = c.size.ensures.value in
    let in_ring = c.if-chains-size.false in
    let low = c.loop-code-test.true in
    let taken = c.any_taken.ensures.some c.if-any_taken.true in
    let chain = some_held n t lead cells code c.of.result.cells.now (omega arith) (subst (λ (k : Chains). length c.of.result.cells.now ≤ many k.setting) c.of.ensures.chains c.of.result.few) c.of.ensures.same (omega arith) taken.0 taken.1 in
    two_known (holds n t lead cells) code c.loop-code.known c.in_default.not-Nothing chain.0 chain.1 c.loop-code.invariant

pub loop-code-preserved : goal.loop-code-preserved
loop-code-preserved c =
    let n = c.args.chains.now.setting.size in
    let t = c.args.chains.now.setting.tolerance in
    let lead = c.args.chains.now.lead in
    let cells = c.args.cells.now in
    let code = c.loop-code.code in
    let part = c.of.result.cells.now in
    let size = c.size.ensures.value in
    let in_ring = c.if-chains-size.false in
    let few = subst (λ (k : Chains). length c.of.result.cells.now ≤ many k.setting) c.of.ensures.chains c.of.result.few in
    let same = c.of.ensures.same in
    let low : code < 16 = let on = c.loop-code-test.true in omega arith in
    let next = λ (known : Known). KnownBelow (holds n t lead cells) (code + 1) known in
    elim c.if-any_taken.branch [
      | then-any_taken+in-Nothing w ↦
          let taken = c.any_taken.ensures.some w.if-any_taken.true in
          let chain = some_held n t lead cells code part low few same (omega arith) taken.0 taken.1 in
          let before = subst (λ (known : Known). KnownBelow (holds n t lead cells) code known) w.in-Nothing.is c.loop-code.invariant in
          subst next (sym w.known-is) (first_known (holds n t lead cells) code chain.0 chain.1 before)
      | else-any_taken w ↦ subst next (sym w.known-is) (nothing_new (holds n t lead cells) code c.loop-code.known (none_held n t lead cells code part low few same (c.any_taken.ensures.none w.if-any_taken.false)) c.loop-code.invariant)
    ]
