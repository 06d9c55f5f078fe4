use Rattle.std.proofs.Common.{◌≡◌, ◌≤◌, drop}
use Rattle.script.specs.Brackets.{closes}
use Rattle.script.proofs.brackets.is_form.Given as goal

abbrev pub invariant-loop-i : goal.invariant-loop-i
invariant-loop-i l = (closes l.depth (drop l.i l.text) ≡ closes 0 l.text) × (l.depth ≤ l.i)
