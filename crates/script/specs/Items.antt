-- What an item is. Assumes nothing.
--   span     how many bytes of a text come before its first space outside brackets; d brackets are open before the text
--   front    the item at the front of a text, which may be empty
--   word     an item that is not empty, not digits alone and not one bracketed form
--   Sorted   an item is of the sort that it is said to be
--   Reads    an item was read from the front of a text, at a place of its line, and no byte was lost
use Rattle.std.specs.Prelude.{◌≡◌, ℕ, suc, ◌<◌, Bool, true, if◌then◌else◌, not, ◌&&◌, ◌⊎◌, List, [], ◌∷◌, ◌++◌, length, take, ◌==◌, nat_lt, slice_index}
use Rattle.script.specs.declared.items.Item.{Item}
use Rattle.script.specs.declared.items.Item.TheVariants.{Word, Number, Form}
use Rattle.script.specs.declared.items.Part.{Part}
use Rattle.script.specs.Brackets.{after, fills}
use Rattle.script.specs.Numerals.{numeral}

abbrev pub span : ℕ → List ℕ → ℕ
span d [] = 0
span d (b ∷ bs) = if d == 0 && b == 32 then 0 else suc (span (after d b) bs)

abbrev pub front : List ℕ → List ℕ
front bs = take (span 0 bs) bs

abbrev pub word : List ℕ → Bool
word bs = nat_lt 0 (length bs) && (not (numeral bs) && not (fills bs))

abbrev pub part : Item → Part
part (Word p) = p
part (Number p) = p
part (Form p) = p

abbrev pub Sorted : Item → Type 0
Sorted (Word p) = word p.bytes.now ≡ true
Sorted (Number p) = numeral p.bytes.now ≡ true
Sorted (Form p) = fills p.bytes.now ≡ true

pub record Reads (text : List ℕ) (place : ℕ) (i : Item) (rest : List ℕ) : Type 0 where
  pub whole : (part i).bytes.now ++ rest ≡ text
  pub item : (part i).bytes.now ≡ front text
  pub some : 0 < length (part i).bytes.now
  pub sorted : Sorted i
  pub placed : (part i).place ≡ place
  -- what is left is nothing, or begins with the space that ended the item
  pub stops : (rest ≡ []) ⊎ (slice_index rest 0 ≡ 32)
