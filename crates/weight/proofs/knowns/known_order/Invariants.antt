use Rattle.weight.specs.Cells.{holds_of}
use Rattle.weight.proofs.Knowing.{KnownBelow}
use Rattle.weight.proofs.knowns.known_order.Given as goal

abbrev pub invariant-loop-code : goal.invariant-loop-code
invariant-loop-code l = KnownBelow (holds_of l.chains l.cells) l.code l.known
