-- Numbers as the script writes them. Assumes nothing.
--   numeral   one or more decimal digits and nothing else
--   plain     no zero stands in front of another digit
--   one_more  the number with the digit d after it, where n was read before
--   valued    the decimal value of digits, where n was read before them
--   within    a number that is at most 4,294,967,295
--   read      the value of a plain numeral that is at most 4,294,967,295
use Rattle.std.specs.Prelude.{ℕ, ◌+◌, ◌-◌, ◌*◌, Bool, if◌then◌else◌, not, ◌&&◌, List, [], ◌∷◌, length, Some, None, Option, ◌==◌, nat_le, nat_lt, slice_index}
use Rattle.std.specs.Str.{all_ascii_digits}

abbrev pub numeral : List ℕ → Bool
numeral bs = all_ascii_digits bs && nat_lt 0 (length bs)

abbrev pub plain : List ℕ → Bool
plain ds = not (nat_lt 1 (length ds) && slice_index ds 0 == 48)

abbrev pub one_more : ℕ → ℕ → ℕ
one_more n d = n * 10 + (d - 48)

abbrev pub valued : ℕ → List ℕ → ℕ
valued n [] = n
valued n (d ∷ ds) = valued (one_more n d) ds

abbrev pub largest : ℕ
largest = 4294967295

abbrev pub within : ℕ → Option ℕ
within n = if nat_le n largest then Some n else None

abbrev pub read : List ℕ → Option ℕ
read ds = if plain ds && nat_le (valued 0 ds) largest then Some (valued 0 ds) else None
