-- What stands between a line's brackets, from its first item on. Assumes nothing.
use Rattle.std.proofs.Common.{◌≡◌, ℕ, ◌+◌, ◌<◌, List, [], ◌∷◌, length, sym, refl, ap, ◌∙◌, arith, length-append}
use Rattle.script.specs.declared.items.Item.{Item}
use Rattle.script.specs.Forms.{piece, placed, pieces_at, cut, following}
use Rattle.script.specs.Items.{Reads, part}
use Rattle.script.proofs.Cuts.{placed_next}

-- an item that was read from a text is the first piece there, and the others begin at q
pub first_piece : (text : List ℕ) (place : ℕ) (i : Item) (more : List ℕ) (q : ℕ) → Reads text place i more → q + length more ≡ place + length text → pieces_at place text ≡ piece (part i) ∷ following q more
first_piece text place i more q r end =
    let all = ap length r.whole in
    let sum = length-append (part i).bytes.now more in
    let long : 0 < length text = (let s = r.some in omega arith) in
    let after : place + length (part i).bytes.now ≡ q = omega arith in
    some text long ∙ placed_next place text (part i).bytes.now more r.item r.whole ∙ (λ k. record { place = sym r.placed k; bytes = (part i).bytes.now } ∷ following (after k) more)
  where
    some : (text : List ℕ) → 0 < length text → pieces_at place text ≡ placed place (cut 0 text)
    some [] none = absurd (omega arith)
    some (b ∷ bs) _ = refl
