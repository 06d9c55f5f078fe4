-- The listing of a script: an answer line for each of its lines. Assumes nothing.
--   line_text     the answer to a line, and a line feed; the line's last byte is the script's byte number `last`
--   last_text     the same of what follows the last line feed, which is a line only if it is not empty
--   first_line    a script up to its first line feed
--   other_lines   the lines after it, the last of them what follows the last line feed
--   listed        the answers to a line that begins after `before` bytes of the script, and to the others
--   listing       the answers to every line of a script
use Rattle.std.specs.Prelude.{ℕ, ◌+◌, if◌then◌else◌, List, [], ◌∷◌, ◌++◌, length, ◌==◌, nat_lt}
use Rattle.script.specs.Answers.{answered, reply_text}

abbrev pub line_text : ℕ → List ℕ → List ℕ
line_text last line = reply_text (answered last line) ++ (10 ∷ [])

abbrev pub last_text : ℕ → List ℕ → List ℕ
last_text last [] = []
last_text last (b ∷ bs) = line_text last (b ∷ bs)

abbrev pub first_line : List ℕ → List ℕ
first_line [] = []
first_line (b ∷ bs) = if b == 10 then [] else b ∷ first_line bs

abbrev pub other_lines : List ℕ → List (List ℕ)
other_lines [] = []
other_lines (b ∷ bs) = if b == 10 then first_line bs ∷ other_lines bs else other_lines bs

abbrev pub listed : ℕ → List ℕ → List (List ℕ) → List ℕ
listed before line [] = last_text (before + length line) line
listed before line (next ∷ others) = line_text (before + length line) line ++ listed (before + length line + 1) next others

abbrev pub listing : List ℕ → List ℕ
listing script = listed 0 (first_line script) (other_lines script)

-- What a session has still to write, byte by byte.
--   counted      one byte more of the script, counted up to the first that is past its limit
--   kept_with    the front of a line with one byte more, up to the first that makes it too long
--   still        what is to be written of the rest of a script, where `read` bytes and the front `line` of a line were read
--   line_feeds   how many lines end in a text
abbrev pub counted : ℕ → ℕ
counted n = if nat_lt n 32769 then n + 1 else n

abbrev pub kept_with : List ℕ → ℕ → List ℕ
kept_with line b = if nat_lt (length line) 201 then line ++ b ∷ [] else line

abbrev pub still : ℕ → List ℕ → List ℕ → List ℕ
still read line [] = last_text read line
still read line (b ∷ bs) = if b == 10 then line_text read line ++ still (counted read) [] bs else still (counted read) (kept_with line b) bs

abbrev pub line_feeds : List ℕ → ℕ
line_feeds [] = 0
line_feeds (b ∷ bs) = if b == 10 then line_feeds bs + 1 else line_feeds bs
