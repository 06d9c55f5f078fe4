-- Which sizes and tolerances make a ring. Assumes nothing.
--   sized       a ring has 2 to 12 switches
--   tolerates   a ring of n switches tolerates 1 to n - 1 faulty ones
--   unfit       the first of these rules that n and t break, if any
use Rattle.std.specs.Prelude.{ℕ, Bool, if◌then◌else◌, ◌&&◌, Some, None, Option, nat_le, nat_lt}
use Rattle.setting.specs.declared.refusals.Refusal.{Refusal}
use Rattle.setting.specs.declared.refusals.Refusal.TheVariants.{Size, Tolerance}

abbrev pub sized : ℕ → Bool
sized n = nat_le 2 n && nat_le n 12

abbrev pub tolerates : ℕ → ℕ → Bool
tolerates n t = nat_le 1 t && nat_lt t n

abbrev pub unfit : ℕ → ℕ → Option Refusal
unfit n t = if sized n then (if tolerates n t then None else Some Tolerance) else Some Size
