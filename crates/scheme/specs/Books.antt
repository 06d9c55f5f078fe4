-- The marks that a book gives, and the lines that it writes. Assumes nothing.
--   marks       the ledger of a book: the number of the line that has a place, from 1, among the lines in use
--   fresh       a place below the count that is not signed
--   NextLine    a place went into the next line, whose number is its mark, and no other line was written
--   Written     signing a fresh place writes the next line; signing any other writes none
use Rattle.std.specs.Prelude.{◌≡◌, ℕ, ◌+◌, Bool, true, false, ◌&&◌, take, ◌==◌, nat_lt, slice_set}
use Rattle.scheme.specs.declared.books.Book.{Book}
use Rattle.scheme.specs.Lines.{line_of}

abbrev pub marks : Book → ℕ → ℕ
marks b p = line_of 1 (take b.used b.lines.now) p

abbrev pub fresh : Book → ℕ → Bool
fresh b p = nat_lt p b.count && marks b p == 0

pub record NextLine (b : Book) (place : ℕ) (b' : Book) (mark : ℕ) : Type 0 where
  pub numbered : mark ≡ b.used + 1
  pub used : b'.used ≡ b.used + 1
  pub lines : b'.lines.now ≡ slice_set b.lines.now b.used place
  pub count : b'.count ≡ b.count

pub record Written (b : Book) (place : ℕ) (b' : Book) (mark : ℕ) : Type 0 where
  pub new : fresh b place ≡ true → NextLine b place b' mark
  pub old : fresh b place ≡ false → (b'.lines.now ≡ b.lines.now) × (b'.used ≡ b.used)
