use Rattle.std.proofs.Common.{sym, ◌∙◌, subst}
use Rattle.script.specs.Forms.{word_of}
use Rattle.script.specs.Items.{Reads}
use Rattle.script.proofs.Lines.{first_piece}
use Rattle.script.proofs.forms.read_inside.Goals as goal

pub returns : goal.returns
returns c =
    let h = c.in-Some-Word-default.ensures in
    let read = subst (λ i. Reads c.args.text.bytes.now c.args.text.place i c.in-Some-Word-default.rest.bytes.now) c.in-Some-Word-default.field-0-0-is h.item in
    let first = first_piece _ _ _ _ _ read h.end in
    c.read_by_word.ensures ∙ (λ k. word_of (h.end k) (sym first k))
