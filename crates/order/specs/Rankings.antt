-- A choice by a list of the sixteen codes. Assumes nothing.
--   EachOnce   a list has each of the codes 0 to 15, and none twice
--   First      the first place of a code in a list
--   FirstPlaces   a table of sixteen places has the first of each code that the list has
--   Ranks      the list has each code once, and the table has each code's first place in it
--   beats      a code stands before the best so far, by the table
--   earliest   of the codes below n that are in a set, the one with the smallest rank
--   ranked     the same of all sixteen codes
use Rattle.std.specs.Prelude.{◌≡◌, ℕ, zero, suc, ◌<◌, ◌≤◌, Bool, true, if◌then◌else◌, ◌&&◌, List, length, Some, None, Option, ◌≢◌, nat_lt, slice_index}
use Rattle.counting.specs.Lists.{distinct}
use Rattle.order.specs.Sets.{has}

pub record EachOnce (list : List ℕ) : Type 0 where
  pub sixteen : length list ≡ 16
  pub each : (c : ℕ) → c < 16 → (i : ℕ) × (i < 16) × (slice_index list i ≡ c)
  pub none_twice : distinct list ≡ true

pub record First (list : List ℕ) (c i : ℕ) : Type 0 where
  pub within : i < length list
  pub here : slice_index list i ≡ c
  pub not_before : (j : ℕ) → j < i → slice_index list j ≢ c

pub record FirstPlaces (list ranks : List ℕ) : Type 0 where
  pub sixteen : length ranks ≡ 16
  pub within : (c : ℕ) → c < 16 → slice_index ranks c < 16
  pub first : (c j : ℕ) → c < 16 → j < length list → slice_index list j ≡ c → (slice_index ranks c ≤ j) × (slice_index list (slice_index ranks c) ≡ c)

pub record Ranks (list ranks : List ℕ) : Type 0 where
  pub once : EachOnce list
  pub places : (c : ℕ) → c < 16 → First list c (slice_index ranks c)

abbrev pub beats : List ℕ → ℕ → Option ℕ → Bool
beats ranks c None = true
beats ranks c (Some b) = nat_lt (slice_index ranks c) (slice_index ranks b)

abbrev pub earliest : List ℕ → ℕ → ℕ → Option ℕ
earliest ranks codes zero = None
earliest ranks codes (suc n) = if has codes n && beats ranks n (earliest ranks codes n) then Some n else earliest ranks codes n

unfoldable pub ranked : List ℕ → ℕ → Option ℕ
ranked ranks codes = earliest ranks codes 16
