-- The marks of a grid. Assumes nothing.
--   grid_marks   the ledger of a grid: a place plus 1 where its bit is set
--   Empty        no place is signed
--   BitSet       the bit of a place is set now, and every other bit is as it was
use Rattle.std.specs.Prelude.{◌≡◌, ℕ, ◌+◌, if◌then◌else◌, ◌&&◌, ◌||◌, ◌==◌, nat_lt}
use Rattle.scheme.specs.declared.grids.Grid.{Grid}
use Rattle.scheme.specs.Bits.{bit_at}

abbrev pub grid_marks : Grid → ℕ → ℕ
grid_marks g p = if nat_lt p g.count && bit_at g.bits p then p + 1 else 0

abbrev pub Empty : Grid → Type 0
Empty g = (p : ℕ) → grid_marks g p ≡ 0

pub record BitSet (g : Grid) (p : ℕ) (g' : Grid) : Type 0 where
  pub count : g'.count ≡ g.count
  pub bits : (q : ℕ) → bit_at g'.bits q ≡ (q == p || bit_at g.bits q)
