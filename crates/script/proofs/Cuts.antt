-- The pieces of a text, one after the other as a reader takes them. Assumes nothing.
use Rattle.std.proofs.Common.{◌≡◌, ℕ, ◌+◌, ◌&&◌, eqb, List, [], ◌∷◌, ◌++◌, length, get_or, take, drop, sym, refl, ap, ◌∙◌, ⊎_elim, arith, length-append, take-append-drop}
use mathlib.Core.List.{append_cancel_left}
use Rattle.std.proofs.lemmas.Bool.{cases_Bool}
use Rattle.script.specs.declared.items.Item.TheVariants.{Number}
use Rattle.script.specs.declared.items.Part.{Part}
use Rattle.script.specs.Brackets.{after}
use Rattle.script.specs.Forms.{onto, cut, placed, following, NextNumber}
use Rattle.script.specs.Items.{span, front, Reads}

-- what is cut after the first piece: nothing, or what follows the space
abbrev pub rest_cut : List ℕ → List (List ℕ)
rest_cut [] = []
rest_cut (b ∷ bs) = cut 0 bs

pub cut_front : (d : ℕ) (bs : List ℕ) → cut d bs ≡ take (span d bs) bs ∷ rest_cut (drop (span d bs) bs)
cut_front d [] = refl
cut_front d (b ∷ bs) =
    ⊎_elim
    (λ e. rw e refl)
    (λ e. rw e (ap (onto b) (cut_front (after d b) bs)))
    (cases_Bool (eqb d 0 && eqb b 32))

-- the first piece of a text that begins at `place`, and the others
pub placed_next : (place : ℕ) (text x more : List ℕ) → x ≡ front text → x ++ more ≡ text → placed place (cut 0 text) ≡ record { place = place; bytes = x } ∷ following (place + length x) more
placed_next place text x more is whole =
    let back : more ≡ drop (span 0 text) text = append_cancel_left x more (drop (span 0 text) text) (whole ∙ sym (take-append-drop (span 0 text) text) ∙ ap (λ l. l ++ drop (span 0 text) text) (sym is)) in
    ap (placed place) (cut_front 0 text) ∙ sym (λ k. placed place (is k ∷ rest_cut (back k))) ∙ ap (λ ps. record { place = place; bytes = x } ∷ ps) (later more)
  where
    later : (more : List ℕ) → placed (place + length x + 1) (rest_cut more) ≡ following (place + length x) more
    later [] = refl
    later (c ∷ cs) = refl

module _ (place : ℕ) (rest text : List ℕ) (some : rest ≡ get_or rest 0 0 ∷ text) where
  pub next_number_is : (x : Part) (more : List ℕ) → Reads text (place + 1) (Number x) more → NextNumber place rest x more
  next_number_is x more r =
      let at : place + 1 ≡ x.place = sym r.placed in
      let sum = length-append x.bytes.now more in
      let all = ap length r.whole in
      let long = ap length some in
      record {
        first = ap (following place) some ∙ placed_next (place + 1) text x.bytes.now more r.item r.whole ∙ ap (λ p. record { place = p; bytes = x.bytes.now } ∷ following (p + length x.bytes.now) more) at;
        digits = r.sorted;
        long = omega arith;
      }
