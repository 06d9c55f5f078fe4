use Rattle.std.proofs.Common.{◌≡◌, ◌+◌, length, sym, ◌∙◌, arith}
use Rattle.std.proofs.lemmas.Bool.{cond-true, cond-false}
use Rattle.script.specs.Forms.{word_of, pieces_at}
use Rattle.script.proofs.Quotes.{reads_quotes}
use Rattle.script.proofs.forms.read_form.Goals as goal

pub returns-in-Some : goal.returns-in-Some
returns-in-Some c =
    let text = c.in-Some.ensures in
    let end : c.in-Some.text.place + length c.in-Some.text.bytes.now ≡ length c.args.line.now = omega arith in
    let is = c.read_inside.ensures ∙ (λ k. word_of (end k) (pieces_at (text.place.0 k) (text.bytes k))) ∙ sym (cond-true _ _ _ (sym c.if-is_whole.ensures)) in
    record { value = is; quotes = reads_quotes _ _ _ is }

pub returns-in_default-clause-quotes : goal.returns-in_default-clause-quotes
returns-in_default-clause-quotes c = reads_quotes _ _ _ (sym (cond-false _ _ _ (sym c.if-is_whole.ensures)))
