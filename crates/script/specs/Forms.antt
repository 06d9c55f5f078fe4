-- What a line says, and what is wrong with it. Assumes nothing.
--   Piece         a piece of a line between spaces, with the place of its first byte
--   cut           a text, cut at its spaces outside brackets; d brackets are open before it
--   placed        pieces with their places, one space between each two, the first at place p
--   pieces_at     the pieces of a text that begins at place p; nothing is no piece, and not an empty one
--   following     the pieces after an item that ends before place p: none at the end, else what follows the space
--   mismatch      the place of the first piece at fault, where a form wants pieces that pass these tests and no more;
--                 a missing one is at the closing bracket, whose place is `end`
--   misnumbered   the place of the first number that has a leading zero or is too large
--   quote_of      the quote form of these pieces, or its flaw: any mismatch goes before any misnumbered piece
--   word_of       the form that the first piece names, of the others; the closing bracket stands at `end`
--   inner         what stands between the brackets of a line
--   inside        the pieces there, the first at place 2
--   whole         a line of at most 200 bytes that is one bracketed form, and whose last byte is among the script's first
--                 32,768; that byte's number in the script is `last`
--   form_of       the form that a line holds, or its flaw
use Rattle.std.specs.Prelude.{◌≡◌, ℕ, ◌+◌, ◌-◌, Bool, true, if◌then◌else◌, not, ◌&&◌, List, [], ◌∷◌, map, length, is_some, Some, None, Ok, Err, codes, Option, Result, ◌==◌, nat_le, slice_index_or}
use Rattle.std.specs.List.{between}
use Rattle.std.specs.Str.{bytes_eq}
use Rattle.script.specs.declared.flaws.Flaw.{Flaw}
use Rattle.script.specs.declared.flaws.Flaw.TheVariants.{NotAForm, UnknownWord, WrongItem, WrongNumber}
use Rattle.script.specs.declared.forms.Form.{Form}
use Rattle.script.specs.declared.forms.Form.TheVariants.{Quote}
use Rattle.script.specs.declared.items.Part.{Part}
use Rattle.script.specs.Brackets.{after, fills}
use Rattle.script.specs.Items.{front}
use Rattle.script.specs.Numerals.{numeral, valued, read}

pub record Piece : Type 0 where
  pub place : ℕ
  pub bytes : List ℕ

-- one byte more at the front of the first piece
abbrev pub onto : ℕ → List (List ℕ) → List (List ℕ)
onto b [] = (b ∷ []) ∷ []
onto b (x ∷ xs) = (b ∷ x) ∷ xs

abbrev pub cut : ℕ → List ℕ → List (List ℕ)
cut d [] = [] ∷ []
cut d (b ∷ bs) = if d == 0 && b == 32 then [] ∷ cut 0 bs else onto b (cut (after d b) bs)

abbrev pub placed : ℕ → List (List ℕ) → List Piece
placed p [] = []
placed p (x ∷ xs) = record { place = p; bytes = x } ∷ placed (p + length x + 1) xs

abbrev pub pieces_at : ℕ → List ℕ → List Piece
pieces_at p [] = []
pieces_at p (b ∷ bs) = placed p (cut 0 (b ∷ bs))

abbrev pub following : ℕ → List ℕ → List Piece
following p [] = []
following p (b ∷ bs) = placed (p + 1) (cut 0 bs)

abbrev pub mismatch : List (List ℕ → Bool) → ℕ → List Piece → Option ℕ
mismatch [] end [] = None
mismatch [] end (x ∷ xs) = Some x.place
mismatch (wanted ∷ more) end [] = Some end
mismatch (wanted ∷ more) end (x ∷ xs) = if wanted x.bytes then mismatch more end xs else Some x.place

abbrev pub misnumbered : List Piece → Option ℕ
misnumbered [] = None
misnumbered (x ∷ xs) = if numeral x.bytes && not (is_some (read x.bytes)) then Some x.place else misnumbered xs

-- the value of the k-th piece, from 0
abbrev pub value : List Piece → ℕ → ℕ
value xs k = valued 0 (slice_index_or (map (λ x. x.bytes) xs) k [])

abbrev pub numbers_of : Option ℕ → Form → Result Form Flaw
numbers_of None f = Ok f
numbers_of (Some b) f = Err (WrongNumber b)

abbrev pub sorts_of : Option ℕ → Result Form Flaw → Result Form Flaw
sorts_of None r = r
sorts_of (Some b) r = Err (WrongItem b)

abbrev pub three_numerals : List (List ℕ → Bool)
three_numerals = numeral ∷ numeral ∷ numeral ∷ []

abbrev pub quote_of : ℕ → List Piece → Result Form Flaw
quote_of end xs = sorts_of (mismatch three_numerals end xs) (numbers_of (misnumbered xs) (Quote (value xs 0) (value xs 1) (value xs 2)))

abbrev pub word_of : ℕ → List Piece → Result Form Flaw
word_of end [] = Err (WrongItem end)
word_of end (x ∷ xs) = if bytes_eq x.bytes (codes "quote") then quote_of end xs else Err (UnknownWord x.place)

abbrev pub inside : List ℕ → List Piece
inside bs = pieces_at 2 bs

abbrev pub inner : List ℕ → List ℕ
inner line = between 1 (length line - 1) line

abbrev pub whole : ℕ → List ℕ → Bool
whole last line = nat_le (length line) 200 && (nat_le last 32768 && fills line)

abbrev pub form_of : ℕ → List ℕ → Result Form Flaw
form_of last line = if whole last line then word_of (length line) (inside (inner line)) else Err NotAForm

-- What the readers of numbers say, where `rest` is empty or begins with the space at `place`.
--   next_place     where the next piece begins, or would
--   is_no_number   there is no next piece, or it is no number
--   NextNumber     the next piece is this number, and `more` is left after it
--   ThreeNumbers   the pieces are these three numbers
--   Misses         the pieces are not three numbers, and the flaw is at the first at fault
abbrev pub next_place : ℕ → List ℕ → ℕ
next_place place [] = place
next_place place (b ∷ bs) = place + 1

abbrev pub is_no_number : List ℕ → Bool
is_no_number [] = true
is_no_number (b ∷ bs) = not (numeral (front bs))

abbrev pub piece : Part → Piece
piece x = record { place = x.place; bytes = x.bytes.now }

pub record NextNumber (place : ℕ) (rest : List ℕ) (x : Part) (more : List ℕ) : Type 0 where
  pub first : following place rest ≡ piece x ∷ following (x.place + length x.bytes.now) more
  pub digits : numeral x.bytes.now ≡ true
  pub long : x.place + length x.bytes.now + length more ≡ place + length rest

pub record ThreeNumbers (xs : List Piece) (x y z : Part) : Type 0 where
  pub pieces : xs ≡ piece x ∷ piece y ∷ piece z ∷ []
  pub first : numeral x.bytes.now ≡ true
  pub second : numeral y.bytes.now ≡ true
  pub third : numeral z.bytes.now ≡ true

pub record Misses (end : ℕ) (xs : List Piece) (e : Flaw) : Type 0 where
  pub at : ℕ
  pub is : e ≡ WrongItem at
  pub miss : mismatch three_numerals end xs ≡ Some at
