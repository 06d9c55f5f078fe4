-- A line reads as a quote of three numbers exactly if it is the line of these numbers. Assumes nothing.
use Rattle.std.proofs.Common.{◌≡◌, ℕ, List, Result, sym, ap, ◌∙◌}
use Rattle.script.specs.declared.flaws.Flaw.{Flaw}
use Rattle.script.specs.declared.forms.Form.{Form}
use Rattle.script.specs.Forms.{form_of}
use Rattle.script.specs.QuoteLines.{ReadsQuotes}
use Rattle.script.proofs.QuotesBack.{reads_back}
use Rattle.script.proofs.QuotesOnly.{reads_only}

pub reads_quotes : (last : ℕ) (line : List ℕ) (r : Result Form Flaw) → r ≡ form_of last line → ReadsQuotes last line r
reads_quotes last line r is =
    record {
      back = λ n t c sn st sc within e. is ∙ ap (form_of last) e ∙ reads_back n t c sn st sc last within;
      only = λ n t c e. reads_only last n t c line (sym is ∙ e);
    }
