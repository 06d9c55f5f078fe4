-- The number and the position of each refusal. Assumes nothing.
--   numbered   the number that a refusal is known by, in print and in the script
--   placed     0: none of these is about a list
use Rattle.std.specs.Prelude.{ℕ}
use Rattle.scheme.specs.declared.refusals.Refusal.{Refusal}
use Rattle.scheme.specs.declared.refusals.Refusal.TheVariants.{Count, Lines}

abbrev pub numbered : Refusal → ℕ
numbered Count = 11
numbered Lines = 12

abbrev pub placed : Refusal → ℕ
placed Count = 0
placed Lines = 0
