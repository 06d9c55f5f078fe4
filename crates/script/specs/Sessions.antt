-- What a session has done and has still to do. Assumes nothing.
--   due     what a session has still to write, where `later` is what is left of the script
--   Moved   a session read a piece: what it wrote, with what it has still to write, is what it had to write before, and
--           it counts the lines that ended
use Rattle.std.specs.Prelude.{◌≡◌, ℕ, ◌+◌, ◌-◌, ◌^◌, min, List, ◌++◌, vec_items}
use Rattle.script.specs.declared.sessions.Session.{Session}
use Rattle.script.specs.Listing.{still, line_feeds}

abbrev pub due : Session → List ℕ → List ℕ
due s later = still s.read (vec_items s.kept) later

pub record Moved (s : Session) (written : List ℕ) (piece : List ℕ) (s' : Session) (written' : List ℕ) : Type 0 where
  pub writes : (later : List ℕ) → written' ++ due s' later ≡ written ++ due s (piece ++ later)
  pub counts : s'.number ≡ min (2 ^ 64 - 1) (s.number + line_feeds piece)
