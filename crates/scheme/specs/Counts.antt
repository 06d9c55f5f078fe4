-- For how many places a scheme is made. Assumes nothing.
--   uncounted   the rule that a count of places breaks, if any: a scheme has 1 to 16,384
--   unfit       the first rule that a count of places and a number of lines break, if any: a book has a line for each place
use Rattle.std.specs.Prelude.{ℕ, if◌then◌else◌, ◌&&◌, Some, None, Option, nat_le}
use Rattle.std.specs.Option.{option_or}
use Rattle.scheme.specs.declared.refusals.Refusal.{Refusal}
use Rattle.scheme.specs.declared.refusals.Refusal.TheVariants.{Count, Lines}

abbrev pub uncounted : ℕ → Option Refusal
uncounted n = if nat_le 1 n && nat_le n 16384 then None else Some Count

abbrev pub unfit : ℕ → ℕ → Option Refusal
unfit n lines = option_or (uncounted n) (if nat_le n lines then None else Some Lines)
