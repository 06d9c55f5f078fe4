-- Sets of codes, as masks. Assumes nothing.
--   has       bit k of a mask is set: code k is in the set
--   Member    what a choice may take from a set: a member, or nothing if it is empty
--   lowest    the first code from k on that is in the set, of the next n codes
--   least     the smallest code of a set of codes 0 to 15
use Rattle.std.specs.Prelude.{◌≡◌, ℕ, zero, suc, ◌/◌, ◌%◌, ◌^◌, Bool, true, if◌then◌else◌, Some, None, Option, ◌==◌}

abbrev pub has : ℕ → ℕ → Bool
has codes k = codes / 2 ^ k % 2 == 1

abbrev pub Member : ℕ → Option ℕ → Type 0
Member codes None = codes ≡ 0
Member codes (Some k) = has codes k ≡ true

abbrev pub lowest : ℕ → ℕ → ℕ → Option ℕ
lowest codes k zero = None
lowest codes k (suc n) = if has codes k then Some k else lowest codes (suc k) n

unfoldable pub least : ℕ → Option ℕ
least codes = lowest codes 0 16
