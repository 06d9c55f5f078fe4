use Rattle.std.proofs.Common.{◌≡◌, ◌+◌, ◌≤◌, drop}
use Rattle.script.specs.Items.{span}
use Rattle.script.proofs.items.item_len.Given as goal

abbrev pub invariant-loop-i : goal.invariant-loop-i
invariant-loop-i l = (l.i + span l.depth (drop l.i l.text) ≡ span 0 l.text) × (l.depth ≤ l.i)
