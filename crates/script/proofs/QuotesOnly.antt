-- No other line reads as a quote. Assumes nothing.
use Rattle.std.proofs.Common.{◌≡◌, ℕ, suc, ◌+◌, ◌-◌, ◌<◌, Bool, true, ◌&&◌, eqb, leb, List, [], ◌∷◌, ◌++◌, map, length, is_some, Some, None, Ok, Err, codes, decimal, Option, Result, sym, refl, ap, ◌∙◌, subst, ⊎_elim, arith}
use Rattle.std.proofs.lemmas.List.{nil_from_length}
use Rattle.std.proofs.lemmas.Bool.{and_parts, and_from, and_right, not_from_true, not_from_false, cases_Bool, cases_eq, cond-true, cond-false, eqb-true, eq-eqb, ne_eqb}
use Rattle.std.proofs.lemmas.Bool.Decides.{nat_tests}
use Rattle.std.specs.List.{join_with_byte}
use Rattle.std.specs.Str.{bytes_eq}
use Rattle.std.proofs.lemmas.Slice.Eq.{bytes_eq-Decides}
use Rattle.script.specs.declared.flaws.Flaw.{Flaw}
use Rattle.script.specs.declared.flaws.Flaw.TheVariants.{NotAForm, UnknownWord}
use Rattle.script.specs.declared.forms.Form.{Form}
use Rattle.script.specs.declared.forms.Form.TheVariants.{Quote}
use Rattle.script.specs.Brackets.{after, closes, fills}
use Rattle.script.specs.Forms.{Piece, cut, onto, placed, inside, inner, mismatch, misnumbered, value, numbers_of, sorts_of, whole, word_of, quote_of, form_of}
use Rattle.script.specs.Numerals.{numeral, valued, read}
use Rattle.script.specs.QuoteLines.{quote_line}
use Rattle.script.proofs.Decimals.{read_decimal}
use Rattle.script.proofs.QuotesBack.{inner_of, quote_bracketed}

-- pieces with a space between each two, and the first of them with one byte more
join_onto : (b : ℕ) (xs : List (List ℕ)) → join_with_byte 32 (onto b xs) ≡ b ∷ join_with_byte 32 xs
join_onto b [] = refl
join_onto b (x ∷ []) = refl
join_onto b (x ∷ y ∷ ys) = refl

join_space : (xs : List (List ℕ)) → 0 < length xs → join_with_byte 32 ([] ∷ xs) ≡ 32 ∷ join_with_byte 32 xs
join_space [] h = absurd (omega arith)
join_space (x ∷ xs) h = refl

onto_some : (b : ℕ) (xs : List (List ℕ)) → 0 < length (onto b xs)
onto_some b [] = omega arith
onto_some b (x ∷ xs) = omega arith

cut_some : (d : ℕ) (bs : List ℕ) → 0 < length (cut d bs)
cut_some d [] = omega arith
cut_some d (b ∷ bs) =
    ⊎_elim (λ e. rw e (omega arith)) (λ e. rw e (onto_some b (cut (after d b) bs))) (cases_Bool (eqb d 0 && eqb b 32))

-- a cut loses no byte
cut_whole : (d : ℕ) (bs : List ℕ) → join_with_byte 32 (cut d bs) ≡ bs
cut_whole d [] = refl
cut_whole d (b ∷ bs) =
    ⊎_elim
    (λ e.
    let space = eqb-true b 32 (and_parts (eqb d 0) (eqb b 32) e).1 in
    rw e (join_space (cut 0 bs) (cut_some 0 bs) ∙ (λ k. sym space k ∷ cut_whole 0 bs k)))
    (λ e. rw e (join_onto b (cut (after d b) bs) ∙ ap (λ l. b ∷ l) (cut_whole (after d b) bs)))
    (cases_Bool (eqb d 0 && eqb b 32))

bytes_placed : (p : ℕ) (xs : List (List ℕ)) → map (λ x. x.bytes) (placed p xs) ≡ xs
bytes_placed p [] = refl
bytes_placed p (x ∷ xs) = ap (λ l. x ∷ l) (bytes_placed (p + length x + 1) xs)

-- a piece that was wanted is there, and of its sort
took : (wanted : List ℕ → Bool) (more : List (List ℕ → Bool)) (end : ℕ) (ps : List Piece) → mismatch (wanted ∷ more) end ps ≡ None → (x : Piece) × (xs : List Piece) × (ps ≡ x ∷ xs) × (wanted x.bytes ≡ true) × (mismatch more end xs ≡ None)
took wanted more end [] h = cc
took wanted more end (x ∷ xs) h =
    ⊎_elim
    (λ e. (x, xs, refl, e, sym (cond-true _ _ _ e) ∙ h))
    (λ e. let none : Some x.place ≡ None = sym (cond-false _ _ _ e) ∙ h in cc)
    (cases_Bool (wanted x.bytes))

no_more : (end : ℕ) (ps : List Piece) → mismatch [] end ps ≡ None → ps ≡ []
no_more end [] h = refl
no_more end (x ∷ xs) h = cc

-- a number that was not at fault was read
readable : (x : Piece) (xs : List Piece) → misnumbered (x ∷ xs) ≡ None → numeral x.bytes ≡ true → (is_some (read x.bytes) ≡ true) × (misnumbered xs ≡ None)
readable x xs h is =
    ⊎_elim
    (λ e. (e, sym (cond-false _ _ _ (and_right _ _ (not_from_true _ e))) ∙ h))
    (λ e. let none : Some x.place ≡ None = sym (cond-true _ _ _ (and_from _ _ is (not_from_false _ e))) ∙ h in cc)
    (cases_Bool (is_some (read x.bytes)))

sorts_ok : (o : Option ℕ) (r : Result Form Flaw) (f : Form) → sorts_of o r ≡ Ok f → (o ≡ None) × (r ≡ Ok f)
sorts_ok None r f h = (refl, h)
sorts_ok (Some b) r f h = cc

numbers_ok : (o : Option ℕ) (g f : Form) → numbers_of o g ≡ Ok f → (o ≡ None) × (g ≡ f)
numbers_ok None g f h = (refl, cc)
numbers_ok (Some b) g f h = cc

-- the pieces of a quote are its three numbers as they are written
three_written : (end n t c : ℕ) (ps : List Piece) → quote_of end ps ≡ Ok (Quote n t c) → map (λ x. x.bytes) ps ≡ decimal n ∷ decimal t ∷ decimal c ∷ []
three_written end n t c ps h =
    let s = sorts_ok _ _ _ h in
    let v = numbers_ok _ _ _ s.1 in
    let x = took numeral (numeral ∷ numeral ∷ []) end ps s.0 in
    let y = took numeral (numeral ∷ []) end x.1 x.4 in
    let z = took numeral [] end y.1 y.4 in
    let three : ps ≡ x.0 ∷ y.0 ∷ z.0 ∷ [] = x.2 ∙ ap (λ l. x.0 ∷ l) (y.2 ∙ ap (λ l. y.0 ∷ l) (z.2 ∙ ap (λ l. z.0 ∷ l) (no_more end z.1 z.4))) in
    let a = readable x.0 (y.0 ∷ z.0 ∷ []) (subst (λ l. misnumbered l ≡ None) three v.0) x.3 in
    let b = readable y.0 (z.0 ∷ []) a.1 y.3 in
    let d = readable z.0 [] b.1 z.3 in
    let same_form = subst (λ l. Quote (value l 0) (value l 1) (value l 2) ≡ Quote n t c) three v.1 in
    let is_n : valued 0 x.0.bytes ≡ n = cc in
    let is_t : valued 0 y.0.bytes ≡ t = cc in
    let is_c : valued 0 z.0.bytes ≡ c = cc in
    let wn = sym (read_decimal x.0.bytes x.3 a.0) ∙ ap decimal is_n in
    let wt = sym (read_decimal y.0.bytes y.3 b.0) ∙ ap decimal is_t in
    let wc = sym (read_decimal z.0.bytes z.3 d.0) ∙ ap decimal is_c in
    ap (map (λ x. x.bytes)) three ∙ (λ k. wn k ∷ wt k ∷ wc k ∷ [])

-- the word and what follows it
word_written : (end n t c : ℕ) (ps : List Piece) → word_of end ps ≡ Ok (Quote n t c) → map (λ x. x.bytes) ps ≡ codes "quote" ∷ decimal n ∷ decimal t ∷ decimal c ∷ []
word_written end n t c [] h = cc
word_written end n t c (w ∷ ps) h =
    ⊎_elim
    (λ e. (λ k. (bytes_eq-Decides w.bytes (codes "quote")).0 e k ∷ three_written end n t c ps (sym (cond-true _ _ _ e) ∙ h) k))
    (λ e. let other : Err (UnknownWord w.place) ≡ Ok (Quote n t c) = sym (cond-false _ _ _ e) ∙ h in cc)
    (cases_Bool (bytes_eq w.bytes (codes "quote")))

-- the last byte of a form closes it
none_left : (d b : ℕ) → after (suc d) b ≡ 0 → b ≡ 41
none_left d b h = grind (arith, nat_tests)

closed_last : (d : ℕ) (bs : List ℕ) → closes (suc d) bs ≡ true → (front : List ℕ) × (bs ≡ front ++ 41 ∷ [])
closed_last d [] h = cc
closed_last d (b ∷ bs) h =
    ⊎_elim
    (λ e.
    let last = nil_from_length bs (eqb-true (length bs) 0 (sym (cond-true _ _ _ (eq-eqb (after (suc d) b) 0 e)) ∙ h)) in
    ([], (λ k. none_left d b e k ∷ last k)))
    (λ e.
    let more : after (suc d) b ≡ suc (after (suc d) b - 1) = omega arith in
    let rest = closed_last (after (suc d) b - 1) bs (subst (λ n. closes n bs ≡ true) more (sym (cond-false _ _ _ (ne_eqb (after (suc d) b) 0 e)) ∙ h)) in
    (b ∷ rest.0, ap (λ l. b ∷ l) rest.1))
    (cases_eq (after (suc d) b) 0)

bracketed : (line : List ℕ) → fills line ≡ true → (text : List ℕ) × (line ≡ 40 ∷ (text ++ 41 ∷ []))
bracketed [] h = cc
bracketed (b ∷ bs) h =
    let p = and_parts (eqb b 40) (closes 0 (b ∷ bs)) h in
    let opens = eqb-true b 40 p.0 in
    let rest = closed_last 0 bs (subst (λ x. closes 0 (x ∷ bs) ≡ true) opens p.1) in
    (rest.0, (λ k. opens k ∷ rest.1 k))

-- what was cut is what its pieces make
joined : (text : List ℕ) (x : List ℕ) (xs : List (List ℕ)) → map (λ p. p.bytes) (inside text) ≡ x ∷ xs → text ≡ join_with_byte 32 (x ∷ xs)
joined [] x xs h = cc
joined (b ∷ bs) x xs h = sym (cut_whole 0 (b ∷ bs)) ∙ ap (join_with_byte 32) (sym (bytes_placed 2 (cut 0 (b ∷ bs))) ∙ h)

pub reads_only : (last n t c : ℕ) (line : List ℕ) → form_of last line ≡ Ok (Quote n t c) → line ≡ quote_line n t c
reads_only last n t c line h =
    ⊎_elim
    (λ e.
    let form = (and_parts (leb last 32768) (fills line) (and_parts (leb (length line) 200) _ e).1).1 in
    let text = bracketed line form in
    let words = word_written (length line) n t c (inside (inner line)) (sym (cond-true _ _ _ e) ∙ h) in
    let between = ap inner text.1 ∙ inner_of text.0 in
    let is = joined text.0 _ _ (ap (λ l. map (λ p. p.bytes) (inside l)) (sym between) ∙ words) in
    text.1 ∙ ap (λ l. 40 ∷ (l ++ 41 ∷ [])) is ∙ sym (quote_bracketed n t c))
    (λ e. let other : Err NotAForm ≡ Ok (Quote n t c) = sym (cond-false _ _ _ e) ∙ h in cc)
    (cases_Bool (whole last line))
