-- The number and the position of each refusal. Assumes nothing.
--   numbered   the number that a refusal is known by, in print and in the script
--   placed     0: a list of codes is refused as a whole
use Rattle.std.specs.Prelude.{ℕ}
use Rattle.order.specs.declared.refusals.Refusal.{Refusal}
use Rattle.order.specs.declared.refusals.Refusal.TheVariants.{List}

abbrev pub numbered : Refusal → ℕ
numbered List = 13

abbrev pub placed : Refusal → ℕ
placed List = 0
