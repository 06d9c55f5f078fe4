-- The number and the place of each flaw. Assumes nothing.
--   numbered   the number that a flaw is known by, or that of the refusal inside it
--   byte_of    the byte of the line at fault, from 1
--   placed     the position that is written beside the number
use Rattle.std.specs.Prelude.{ℕ}
use Rattle.script.specs.declared.flaws.Flaw.{Flaw}
use Rattle.script.specs.declared.flaws.Flaw.TheVariants.{NotAForm, UnknownWord, WrongItem, WrongNumber, Refused}
use Rattle.setting.specs.Refused as setting

abbrev pub numbered : Flaw → ℕ
numbered NotAForm = 81
numbered (UnknownWord b) = 82
numbered (WrongItem b) = 83
numbered (WrongNumber b) = 84
numbered (Refused e) = setting.numbered e

abbrev pub byte_of : Flaw → ℕ
byte_of NotAForm = 1
byte_of (UnknownWord b) = b
byte_of (WrongItem b) = b
byte_of (WrongNumber b) = b
byte_of (Refused e) = 1

abbrev pub placed : Flaw → ℕ
placed NotAForm = 1
placed (UnknownWord b) = b
placed (WrongItem b) = b
placed (WrongNumber b) = b
placed (Refused e) = setting.placed e
