-- The codes of link orders. Assumes nothing.
--   link_code   twice the link, plus 1 if it is to be closed
use Rattle.std.specs.Prelude.{ℕ, ◌+◌, ◌*◌, Bool, if◌then◌else◌}

abbrev pub link_code : ℕ → Bool → ℕ
link_code link closed = 2 * link + (if closed then 1 else 0)
