-- A book's lines: the signed places, one to a line. Assumes nothing.
--   line_of   the number of the first line with a place, where the first line has number k; 0 where no line has it
use Rattle.std.specs.Prelude.{ℕ, suc, if◌then◌else◌, List, [], ◌∷◌, ◌==◌}

abbrev pub line_of : ℕ → List ℕ → ℕ → ℕ
line_of k [] p = 0
line_of k (x ∷ xs) p = if p == x then k else line_of (suc k) xs p
