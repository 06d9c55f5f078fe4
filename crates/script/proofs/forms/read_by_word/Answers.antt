use Rattle.std.proofs.Common.{codes, sym, ◌∙◌, rules}
use Rattle.std.proofs.lemmas.Bool.{cond-true}
use Rattle.std.proofs.lemmas.Slice.Eq.{bytes_eq-Decides, text_from_reads}
use Rattle.script.proofs.forms.read_by_word.Goals as goal

pub returns-in-quote : goal.returns-in-quote
returns-in-quote c =
    let word = text_from_reads c.args.word.bytes.now (codes "quote") (search rules) (search rules) in
    c.read_quote.ensures ∙ sym (cond-true _ _ _ ((bytes_eq-Decides c.args.word.bytes.now (codes "quote")).1 word))
