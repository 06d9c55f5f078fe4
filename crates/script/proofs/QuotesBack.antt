-- The line of a quote reads back as its three numbers. Assumes nothing.
use Rattle.std.proofs.Common.{◌≡◌, ℕ, ◌≤◌, true, false, eqb, List, [], ◌∷◌, ◌++◌, length, Ok, codes, decimal, refl, ap, ◌∙◌, subst, append_assoc, arith, length-append}
use Rattle.std.specs.Str.{all_ascii_digits}
use Rattle.std.specs.Char.{is_ascii_digit}
use Rattle.std.proofs.lemmas.Fmt.{length-decimal-le}
use Rattle.std.proofs.lemmas.List.{take_at}
use Rattle.std.proofs.lemmas.Bool.{and_parts, and_from, le-leb, cond-true}
use Rattle.std.proofs.lemmas.Bool.Decides.{nat_tests}
use Rattle.script.specs.declared.forms.Form.TheVariants.{Quote}
use Rattle.script.specs.Brackets.{closes, fills}
use Rattle.script.specs.Forms.{cut, onto, placed, inside, inner, whole, word_of, form_of}
use Rattle.script.specs.Numerals.{largest}
use Rattle.script.specs.QuoteLines.{quote_line}
use Rattle.script.proofs.Decimals.{digits_of, decimal_numeral, decimal_read, decimal_valued}

-- no brackets in a text, and in an item no space either
abbrev Flat : List ℕ → Type 0
Flat [] = Unit {0}
Flat (b ∷ bs) = (eqb b 40 ≡ false) × (eqb b 41 ≡ false) × Flat bs

abbrev Solid : List ℕ → Type 0
Solid [] = Unit {0}
Solid (b ∷ bs) = (eqb b 32 ≡ false) × Solid bs

flat_append : (xs ys : List ℕ) → Flat xs → Flat ys → Flat (xs ++ ys)
flat_append [] ys f g = g
flat_append (x ∷ xs) ys f g = (f.0, f.1, flat_append xs ys f.2 g)

closes_flat : (xs ys : List ℕ) → Flat xs → closes 1 (xs ++ ys) ≡ closes 1 ys
closes_flat [] ys f = refl
closes_flat (x ∷ xs) ys f = rw (f.0, f.1) (closes_flat xs ys f.2)

cut_one : (xs : List ℕ) → Flat xs → Solid xs → cut 0 xs ≡ xs ∷ []
cut_one [] f s = refl
cut_one (x ∷ xs) f s = rw (s.0, f.0, f.1) (ap (onto x) (cut_one xs f.2 s.1))

cut_more : (xs ys : List ℕ) → Flat xs → Solid xs → cut 0 (xs ++ 32 ∷ ys) ≡ xs ∷ cut 0 ys
cut_more [] ys f s = refl
cut_more (x ∷ xs) ys f s = rw (s.0, f.0, f.1) (ap (onto x) (cut_more xs ys f.2 s.1))

digits_flat : (ds : List ℕ) → all_ascii_digits ds ≡ true → Flat ds
digits_flat [] h = tt
digits_flat (d ∷ ds) h =
    let p = and_parts (is_ascii_digit d) (all_ascii_digits ds) h in
    let digit = p.0 in
    (grind (arith, nat_tests), grind (arith, nat_tests), digits_flat ds p.1)

digits_solid : (ds : List ℕ) → all_ascii_digits ds ≡ true → Solid ds
digits_solid [] h = tt
digits_solid (d ∷ ds) h =
    let p = and_parts (is_ascii_digit d) (all_ascii_digits ds) h in
    let digit = p.0 in
    (grind (arith, nat_tests), digits_solid ds p.1)

pub inner_of : (text : List ℕ) → inner (40 ∷ (text ++ 41 ∷ [])) ≡ text
inner_of text = take_at text (41 ∷ []) _ (let l = length-append text (41 ∷ []) in omega arith)

-- a text without brackets makes a form between two
form_of_flat : (text : List ℕ) → Flat text → fills (40 ∷ (text ++ 41 ∷ [])) ≡ true
form_of_flat text f = closes_flat text (41 ∷ []) f

-- what stands between the brackets of a quote's line
abbrev pub quote_text : ℕ → ℕ → ℕ → List ℕ
quote_text n t c = codes "quote" ++ (32 ∷ (decimal n ++ (32 ∷ (decimal t ++ (32 ∷ decimal c)))))

pub quote_bracketed : (n t c : ℕ) → quote_line n t c ≡ 40 ∷ (quote_text n t c ++ 41 ∷ [])
quote_bracketed n t c = simp append_assoc

module _ (n t c : ℕ) (small_n : n ≤ largest) (small_t : t ≤ largest) (small_c : c ≤ largest) where
  pieces : cut 0 (quote_text n t c) ≡ codes "quote" ∷ decimal n ∷ decimal t ∷ decimal c ∷ []
  pieces =
      let dn = digits_of n small_n in
      let dt = digits_of t small_t in
      let dc = digits_of c small_c in
      let last = cut_one (decimal c) (digits_flat _ dc) (digits_solid _ dc) in
      let second = cut_more (decimal t) (decimal c) (digits_flat _ dt) (digits_solid _ dt) in
      let first = cut_more (decimal n) (decimal t ++ (32 ∷ decimal c)) (digits_flat _ dn) (digits_solid _ dn) in
      ap (λ ps. codes "quote" ∷ ps) (first ∙ ap (λ ps. decimal n ∷ ps) (second ∙ ap (λ ps. decimal t ∷ ps) last))

  flat : Flat (quote_text n t c)
  flat =
      flat_append (codes "quote ") _ (refl, refl, (refl, refl, (refl, refl, (refl, refl, (refl, refl, (refl, refl, tt))))))
      (flat_append (decimal n) _ (digits_flat _ (digits_of n small_n))
      (refl, refl, flat_append (decimal t) _ (digits_flat _ (digits_of t small_t)) (refl, refl, digits_flat _ (digits_of c small_c))))

  short : length (quote_line n t c) ≤ 200
  short =
      let ln = length-decimal-le 10 n (omega arith) (omega arith) (omega arith) in
      let lt = length-decimal-le 10 t (omega arith) (omega arith) (omega arith) in
      let lc = length-decimal-le 10 c (omega arith) (omega arith) (omega arith) in
      let a = length-append (decimal n) (32 ∷ (decimal t ++ (32 ∷ (decimal c ++ 41 ∷ [])))) in
      let b = length-append (decimal t) (32 ∷ (decimal c ++ 41 ∷ [])) in
      let d = length-append (decimal c) (41 ∷ []) in
      omega arith

  numbers_read : (end : ℕ) → word_of end (placed 2 (codes "quote" ∷ decimal n ∷ decimal t ∷ decimal c ∷ [])) ≡ Ok (Quote n t c)
  numbers_read end =
      rw (decimal_numeral n small_n, decimal_numeral t small_t, decimal_numeral c small_c)
      (rw (decimal_read n small_n, decimal_read t small_t, decimal_read c small_c)
      (rw (decimal_valued n small_n, decimal_valued t small_t, decimal_valued c small_c) refl))

  pub reads_back : (last : ℕ) → last ≤ 32768 → form_of last (quote_line n t c) ≡ Ok (Quote n t c)
  reads_back last within =
      let long = subst (λ l. length l ≤ 200) (quote_bracketed n t c) short in
      let line = 40 ∷ (quote_text n t c ++ 41 ∷ []) in
      let all : whole last line ≡ true = and_from _ _ (le-leb (length line) 200 long) (and_from _ _ (le-leb last 32768 within) (form_of_flat (quote_text n t c) flat)) in
      ap (form_of last) (quote_bracketed n t c) ∙ cond-true _ _ _ all ∙ ap (λ l. word_of (length line) (inside l)) (inner_of (quote_text n t c)) ∙ ap (λ ps. word_of (length line) (placed 2 ps)) pieces ∙ numbers_read (length line)
