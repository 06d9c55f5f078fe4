-- The line of a quote, as it is written. Assumes nothing.
--   quote_line    the line of the three numbers n, t and c
--   ReadsQuotes   that line reads back as these numbers, within the script's limit, and no other line does
use Rattle.std.specs.Prelude.{◌≡◌, ℕ, ◌≤◌, List, ◌++◌, Ok, codes, decimal, Result}
use Rattle.script.specs.declared.flaws.Flaw.{Flaw}
use Rattle.script.specs.declared.forms.Form.{Form}
use Rattle.script.specs.declared.forms.Form.TheVariants.{Quote}
use Rattle.script.specs.Numerals.{largest}

abbrev pub quote_line : ℕ → ℕ → ℕ → List ℕ
quote_line n t c = codes "(quote " ++ (decimal n ++ (codes " " ++ (decimal t ++ (codes " " ++ (decimal c ++ codes ")")))))

pub record ReadsQuotes (last : ℕ) (line : List ℕ) (r : Result Form Flaw) : Type 0 where
  pub back : (n t c : ℕ) → n ≤ largest → t ≤ largest → c ≤ largest → last ≤ 32768 → line ≡ quote_line n t c → r ≡ Ok (Quote n t c)
  pub only : (n t c : ℕ) → r ≡ Ok (Quote n t c) → line ≡ quote_line n t c
