-- Bits in words of 64. Assumes nothing.
--   bit_at   bit p of a row of words, 64 to a word, is set
use Rattle.std.specs.Prelude.{ℕ, ◌/◌, ◌%◌, Bool, List, slice_index}
use Rattle.order.specs.Sets.{has}

abbrev pub bit_at : List ℕ → ℕ → Bool
bit_at words p = has (slice_index words (p / 64)) (p % 64)
