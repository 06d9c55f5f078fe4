-- The number and the position of each refusal. Assumes nothing.
--   numbered   the number that a refusal is known by, in print and in the script
--   placed     the place, from 1, of the name at fault, and 0 where the number of names is
use Rattle.std.specs.Prelude.{ℕ}
use Rattle.chain.specs.declared.refusals.Refusal.{Refusal}
use Rattle.chain.specs.declared.refusals.Refusal.TheVariants.{Length, Beyond, NotLead, Repeated}

abbrev pub numbered : Refusal → ℕ
numbered Length = 31
numbered (Beyond p) = 32
numbered NotLead = 33
numbered (Repeated p) = 34

abbrev pub placed : Refusal → ℕ
placed Length = 0
placed (Beyond p) = p
placed NotLead = 1
placed (Repeated p) = p
