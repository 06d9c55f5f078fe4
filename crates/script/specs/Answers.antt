-- What a line is answered, and how it is written. Assumes nothing.
--   obeyed        what a form is answered once it was read
--   answered      the answer to a line, or its flaw; its last byte is the script's byte number `last`
--   answer_text   an answer as it is written, without its line feed
--   flaw_text     a flaw as it is written: its number and its position
use Rattle.std.specs.Prelude.{ℕ, List, ◌++◌, Ok, Err, codes, decimal, Result}
use Rattle.setting.specs.declared.refusals.Refusal.{Refusal}
use Rattle.setting.specs.Quotes.{quoted}
use Rattle.script.specs.declared.answers.Answer.{Answer}
use Rattle.script.specs.declared.answers.Answer.TheVariants as answer
use Rattle.script.specs.declared.flaws.Flaw.{Flaw}
use Rattle.script.specs.declared.flaws.Flaw.TheVariants.{Refused}
use Rattle.script.specs.declared.forms.Form.{Form}
use Rattle.script.specs.declared.forms.Form.TheVariants.{Quote}
use Rattle.script.specs.Flaws.{numbered, placed}
use Rattle.script.specs.Forms.{form_of}

abbrev quoted_round : Result ℕ Refusal → Result Answer Refusal
quoted_round (Ok r) = Ok (answer.Quote r)
quoted_round (Err e) = Err e

abbrev pub obeyed : Form → Result Answer Refusal
obeyed (Quote n t c) = quoted_round (quoted n t c)

abbrev pub kept : Result Answer Refusal → Result Answer Flaw
kept (Ok a) = Ok a
kept (Err e) = Err (Refused e)

abbrev pub form_answered : Result Form Flaw → Result Answer Flaw
form_answered (Ok f) = kept (obeyed f)
form_answered (Err e) = Err e

abbrev pub answered : ℕ → List ℕ → Result Answer Flaw
answered last line = form_answered (form_of last line)

abbrev pub answer_text : Answer → List ℕ
answer_text (answer.Quote r) = codes "(quote " ++ (decimal r ++ codes ")")

abbrev pub flaw_text : Flaw → List ℕ
flaw_text e = codes "(no " ++ (decimal (numbered e) ++ (codes " " ++ (decimal (placed e) ++ codes ")")))

abbrev pub reply_text : Result Answer Flaw → List ℕ
reply_text (Ok a) = answer_text a
reply_text (Err e) = flaw_text e
