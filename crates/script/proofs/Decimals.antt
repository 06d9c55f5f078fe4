-- Numbers that are written and read. Assumes nothing.
use Rattle.std.proofs.Common.{◌≡◌, ℕ, ◌^◌, ◌<◌, ◌≤◌, Bool, true, false, cond, ◌&&◌, ltb, leb, List, length, get_or, is_some, Some, None, decimal, refl, ap, ◌∙◌, ⊎_elim, arith, rules}
use Rattle.std.specs.Str.{all_ascii_digits}
use Rattle.std.proofs.lemmas.Fmt.{digits_decimal, digits_value-decimal, decimal-digits_value, decimal_nonempty, decimal_digit, first_decimal}
use Rattle.std.proofs.lemmas.Str.Parse.{IsNumeralModel, numerals_by_fold}
use Rattle.std.proofs.lemmas.Bool.{and_parts, and_from, cases_lt, cond-true, ltb-true, lt-ltb, le-leb, leb-true, eq-eqb}
use Rattle.std.proofs.lemmas.Bool.Decides.{nat_tests}
use Rattle.script.specs.Numerals.{numeral, plain, valued, largest, read}

own : IsNumeralModel (λ ds. all_ascii_digits ds ≡ true) (valued 0)
own = numerals_by_fold _ (search rules) valued (search rules)

module _ (n : ℕ) (small : n ≤ largest) where
  fits : n < 2 ^ 64
  fits = omega arith

  pub digits_of : all_ascii_digits (decimal n) ≡ true
  digits_of = digits_decimal own n fits

  pub decimal_numeral : numeral (decimal n) ≡ true
  decimal_numeral = and_from _ _ digits_of (lt-ltb 0 (length (decimal n)) (decimal_nonempty n fits))

  decimal_plain : plain (decimal n) ≡ true
  decimal_plain =
      ⊎_elim
      (λ some. let first = first_decimal n some fits in grind (arith, nat_tests))
      (λ none. let zero : n ≡ 0 = omega arith in rw (zero, decimal_digit 0 (omega arith)) refl)
      (cases_lt 0 n)

  pub decimal_valued : valued 0 (decimal n) ≡ n
  decimal_valued = digits_value-decimal own n fits

  pub decimal_read : read (decimal n) ≡ Some n
  decimal_read =
      let is = decimal_valued in
      cond-true _ _ _ (and_from _ _ decimal_plain (le-leb (valued 0 (decimal n)) largest (omega arith))) ∙ ap Some is

-- what was read is written again as it stood
pub read_decimal : (ds : List ℕ) → numeral ds ≡ true → is_some (read ds) ≡ true → decimal (valued 0 ds) ≡ ds
read_decimal ds is some =
    let p = and_parts (all_ascii_digits ds) (ltb 0 (length ds)) is in
    let good = was (plain ds && leb (valued 0 ds) largest) some in
    let q = and_parts (plain ds) (leb (valued 0 ds) largest) good in
    let low = leb-true (valued 0 ds) largest q.1 in
    let long = ltb-true 0 (length ds) p.1 in
    decimal-digits_value own ds p.0 long (λ zero. alone q.0 zero long) (omega arith)
  where
    was : (b : Bool) → is_some (cond b (Some (valued 0 ds)) None) ≡ true → b ≡ true
    was true h = refl
    was false h = h

    alone : plain ds ≡ true → get_or ds 0 0 ≡ 48 → 0 < length ds → length ds ≡ 1
    alone h zero long = let first = eq-eqb (get_or ds 0 0) 48 zero in grind (arith, nat_tests)
