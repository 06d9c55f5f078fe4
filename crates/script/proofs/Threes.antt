-- Three numbers, taken one after the other. Assumes nothing.
use Rattle.std.proofs.Common.{◌≡◌, ℕ, ◌+◌, ◌<◌, Bool, true, false, List, [], ◌∷◌, length, is_some, Some, None, Ok, Err, Option, Result, sym, refl, ap, ◌∙◌, add-zero, arith}
use Rattle.std.specs.Option.{ok_or}
use Rattle.std.proofs.lemmas.Bool.{cond-true, cond-false, not-true}
use Rattle.script.specs.declared.flaws.Flaw.{Flaw}
use Rattle.script.specs.declared.flaws.Flaw.TheVariants.{WrongItem, WrongNumber}
use Rattle.script.specs.declared.items.Part.{Part}
use Rattle.script.specs.Forms.{Piece, placed, following, mismatch, three_numerals, next_place, is_no_number, NextNumber, ThreeNumbers, Misses, quote_of}
use Rattle.script.specs.Numerals.{numeral, read}
use Rattle.script.proofs.Cuts.{cut_front}

-- the place after a part
abbrev pub past : Part → ℕ
past x = x.place + length x.bytes.now

-- the pieces so far pass, and the tests left are those of what stands at place p
pub record Reached (end : ℕ) (xs : List Piece) (left : List (List ℕ → Bool)) (p : ℕ) (rest : List ℕ) : Type 0 where
  pub same : mismatch three_numerals end xs ≡ mismatch left end (following p rest)
  pub ends : end ≡ p + length rest

pub begins : (p : ℕ) (rest : List ℕ) → Reached (p + length rest) (following p rest) three_numerals p rest
begins p rest = record { same = refl; ends = refl }

module _ {end : ℕ} {xs : List Piece} {left : List (List ℕ → Bool)} {p : ℕ} {rest : List ℕ} where
  -- q is the place that the code has for the end of x
  pub goes_on : (x : Part) (more : List ℕ) (q : ℕ) → Reached end xs (numeral ∷ left) p rest → NextNumber p rest x more → q ≡ past x → Reached end xs left q more
  goes_on x more q r h is =
      rw is (record {
        same = r.same ∙ ap (mismatch (numeral ∷ left) end) h.first ∙ cond-true _ _ _ h.digits;
        ends = r.ends ∙ sym h.long;
      })

  pub stops : (e : Flaw) → Reached end xs (numeral ∷ left) p rest → (e ≡ WrongItem (next_place p rest)) × (is_no_number rest ≡ true) → Misses end xs e
  stops e r h = record { at = next_place p rest; is = h.0; miss = r.same ∙ ap (λ e. mismatch (numeral ∷ left) e (following p rest)) r.ends ∙ none rest h.1 }
    where
      none : (rest : List ℕ) → is_no_number rest ≡ true → mismatch (numeral ∷ left) (p + length rest) (following p rest) ≡ Some (next_place p rest)
      none [] other = ap Some (add-zero p)
      none (b ∷ bs) other = ap (λ ps. mismatch (numeral ∷ left) (p + length (b ∷ bs)) (placed (p + 1) ps)) (cut_front 0 bs) ∙ cond-false _ _ _ (not-true _ other)

pub one_too_many : {end : ℕ} {xs : List Piece} {p : ℕ} {rest : List ℕ} (e : Flaw) → Reached end xs [] p rest → (e ≡ WrongItem (p + 1)) × (0 < length rest) → Misses end xs e
one_too_many {end} {xs} {p} {rest} e r h = record { at = p + 1; is = h.0; miss = r.same ∙ extra rest h.1 }
  where
    extra : (rest : List ℕ) → 0 < length rest → mismatch [] end (following p rest) ≡ Some (p + 1)
    extra [] none = absurd (omega arith)
    extra (b ∷ bs) _ = ap (λ ps. mismatch [] end (placed (p + 1) ps)) (cut_front 0 bs)

-- a number that was read, and one that was not
was_read : (o : Option ℕ) (f : Flaw) (u : ℕ) → ◌≡◌ {A = Result ℕ Flaw} (Ok u) (ok_or o f) → is_some o ≡ true
was_read None f u e = cc
was_read (Some v) f u e = refl

was_refused : (o : Option ℕ) (f e : Flaw) → ◌≡◌ {A = Result ℕ Flaw} (Err e) (ok_or o f) → (is_some o ≡ false) × (e ≡ f)
was_refused None f e is = (refl, cc)
was_refused (Some v) f e is = cc

-- the first of three numbers that is wrong is the second, or the third
module _ (end : ℕ) (xs : List Piece) (x y z : Part) (h : ThreeNumbers xs x y z) (u : ℕ) (first : ◌≡◌ {A = Result ℕ Flaw} (Ok u) (ok_or (read x.bytes.now) (WrongNumber x.place))) (e : Flaw) where
  pub second_wrong : ◌≡◌ {A = Result ℕ Flaw} (Err e) (ok_or (read y.bytes.now) (WrongNumber y.place)) → Err e ≡ quote_of end xs
  second_wrong wrong =
      let a = was_read _ _ _ first in
      let b = was_refused _ _ _ wrong in
      rw (h.pieces, h.first, h.second, h.third, a, b.0) (ap Err b.1)

  pub third_wrong : (v : ℕ) → ◌≡◌ {A = Result ℕ Flaw} (Ok v) (ok_or (read y.bytes.now) (WrongNumber y.place)) → ◌≡◌ {A = Result ℕ Flaw} (Err e) (ok_or (read z.bytes.now) (WrongNumber z.place)) → Err e ≡ quote_of end xs
  third_wrong v second wrong =
      let a = was_read _ _ _ first in
      let b = was_read _ _ _ second in
      let d = was_refused _ _ _ wrong in
      rw (h.pieces, h.first, h.second, h.third, a, b, d.0) (ap Err d.1)
