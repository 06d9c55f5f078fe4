-- The number and the position of each refusal. Assumes nothing.
--   numbered   the number that a refusal is known by, in print and in the script
--   placed     the place, from 1, of the name at fault in its list, and 0 where no list is refused
use Rattle.std.specs.Prelude.{ℕ}
use Rattle.setting.specs.declared.refusals.Refusal.{Refusal}
use Rattle.setting.specs.declared.refusals.Refusal.TheVariants.{Size, Tolerance, SoundCount}

abbrev pub numbered : Refusal → ℕ
numbered Size = 21
numbered Tolerance = 22
numbered SoundCount = 14

abbrev pub placed : Refusal → ℕ
placed Size = 0
placed Tolerance = 0
placed SoundCount = 0
