-- The item at the front of a text. Assumes nothing.
use Rattle.std.proofs.Common.{◌≡◌, ℕ, suc, false, ◌&&◌, eqb, ◌⊎◌, List, [], ◌∷◌, ◌++◌, length, get_or, take, drop, refl, ◌∙◌, inl, inr, arith, take-append-drop}
use Rattle.std.proofs.lemmas.Bool.{cond_both, and_parts, eqb-true, eqb-false}
use Rattle.script.specs.declared.items.Item.{Item}
use Rattle.script.specs.Brackets.{after}
use Rattle.script.specs.Items.{span, front, Reads, part, Sorted}

-- an item ends at the end of the text or at a space
pub stops : (d : ℕ) (bs : List ℕ) → (drop (span d bs) bs ≡ []) ⊎ (get_or (drop (span d bs) bs) 0 0 ≡ 32)
stops d [] = inl refl
stops d (b ∷ bs) =
    cond_both (eqb d 0 && eqb b 32) 0 (suc (span (after d b) bs)) (λ n. (drop n (b ∷ bs) ≡ []) ⊎ (get_or (drop n (b ∷ bs)) 0 0 ≡ 32))
    (λ e. inr (eqb-true b 32 (and_parts (eqb d 0) (eqb b 32) e).1)) (λ _. stops (after d b) bs)

-- what a reader has to show once it has cut the text
pub read : (text : List ℕ) (place : ℕ) (i : Item) (rest : List ℕ) → (part i).bytes.now ≡ take (span 0 text) text → rest ≡ drop (span 0 text) text → eqb (length (part i).bytes.now) 0 ≡ false → Sorted i → (part i).place ≡ place → Reads text place i rest
read text place i rest front back some sorted placed =
    let here = stops 0 text in
    record {
      whole = (λ k. front k ++ back k) ∙ take-append-drop (span 0 text) text;
      item = front;
      some = let h = eqb-false (length (part i).bytes.now) 0 some in omega arith;
      sorted = sorted;
      placed = placed;
      stops = rw back here;
    }
