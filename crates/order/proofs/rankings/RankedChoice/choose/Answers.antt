use Rattle.std.proofs.Common.{sym, ◌∙◌, arith}
use Rattle.order.specs.Earliest.{wins, stays_out, stays_behind, best_so_far, best_low, ranked_is, ranked_first}
use Rattle.order.specs.Masks.{on_from, off_from}
use Rattle.order.proofs.rankings.RankedChoice.choose.Goals as goal
use Rattle.order.proofs.rankings.RankedChoice.choose.Goals.{then-codes-code-eq1+then-is_before, else-codes-code-eq1, else-codes-code-eq1-via-then-codes-code-eq1+else-is_before, else-codes-code-eq1-via-else-codes-code-eq1}

pub is_before-requires : goal.is_before-requires
is_before-requires c =
    record { code = c.loop-code-test.true; best = best_low _ _ _ _ c.loop-code.auto.code-end (best_so_far _ _ _ _ c.loop-code.invariant) }

pub loop-code-preserved : goal.loop-code-preserved
loop-code-preserved c =
    elim c.if-codes-code-eq1.branch [
      | then-codes-code-eq1+then-is_before w ↦ w.best-is ∙ wins c.args.self.now.ranks c.args.codes c.loop-code.code c.loop-code.best c.loop-code.invariant (on_from c.args.codes c.loop-code.code w.if-codes-code-eq1.true) (sym w.if-is_before.ensures)
      | else-codes-code-eq1 w ↦
          w.best-is ∙ (elim w.else-codes-code-eq1.branch [
            | else-codes-code-eq1-via-then-codes-code-eq1+else-is_before v ↦ stays_behind c.args.self.now.ranks c.args.codes c.loop-code.code c.loop-code.best c.loop-code.invariant (sym v.if-is_before.ensures)
            | else-codes-code-eq1-via-else-codes-code-eq1 v ↦ stays_out c.args.self.now.ranks c.args.codes c.loop-code.code c.loop-code.best c.loop-code.invariant (off_from c.args.codes c.loop-code.code v.if-codes-code-eq1.false)
          ])
    ]

pub returns : goal.returns
returns c =
    let is = ranked_is c.args.self.now.ranks c.args.codes c.loop-code.code c.loop-code.best c.loop-code.invariant (omega arith) in
    record { value = is; first = ranked_first _ _ _ is }
