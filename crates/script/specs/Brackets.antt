-- Brackets in a text. Assumes nothing.
--   after    how many brackets are open after a byte, where d were before it
--   closes   the last byte of a text is the first after which no bracket is open, where d were open before the text
--   fills    one bracketed form filling a text: the first byte opens a bracket that the last byte closes, and no earlier one
use Rattle.std.specs.Prelude.{ℕ, ◌+◌, ◌-◌, Bool, false, if◌then◌else◌, ◌&&◌, List, [], ◌∷◌, length, ◌==◌, slice_index}

abbrev pub after : ℕ → ℕ → ℕ
after d b = if b == 40 then d + 1 else if b == 41 then d - 1 else d

abbrev pub closes : ℕ → List ℕ → Bool
closes d [] = false
closes d (b ∷ bs) = if after d b == 0 then length bs == 0 else closes (after d b) bs

abbrev pub fills : List ℕ → Bool
fills bs = slice_index bs 0 == 40 && closes 0 bs
