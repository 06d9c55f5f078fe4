-- What is left of a line while its form is read. Assumes nothing.
--   end_of      the place after it, where the closing bracket stands
--   pieces_of   the pieces in it: none at the end, else what follows the space
use Rattle.std.specs.Prelude.{ℕ, ◌+◌, List, length}
use Rattle.script.specs.declared.rests.Rest.{Rest}
use Rattle.script.specs.Forms.{Piece, following}

abbrev pub end_of : Rest → ℕ
end_of r = r.place + length r.bytes.now

abbrev pub pieces_of : Rest → List Piece
pieces_of r = following r.place r.bytes.now
