use Rattle.std.proofs.Common.{◌≡◌, eqb, length, take, drop, sym, refl, ap, ◌∙◌, arith}
use Rattle.std.proofs.lemmas.Bool.Decides.{nat_tests}
use Rattle.script.specs.declared.items.Item.{Item}
use Rattle.script.specs.Items.{Reads, Sorted, part}
use Rattle.script.proofs.Fronts.{read}
use Rattle.script.proofs.items.read_item.Goals as goal
use Rattle.script.proofs.items.read_item.Goals.{Else-is_empty}

-- an item that is made of the cut, of whatever sort
made : (c : Else-is_empty) (i : Item) → part i ≡ record { bytes = c.split_at.result.0; place = c.args.place } → Sorted i → Reads c.args.text.now c.args.place i c.split_at.result.1.now
made c i is sorted =
    let told = c.split_at.ensures in
    let long = c.item_len.ensures.value in
    read _ _ i _ (ap (λ p. p.bytes.now) is ∙ told.front ∙ ap (λ n. take n c.args.text.now) long)
    (told.back ∙ ap (λ n. drop n c.args.text.now) long)
    (ap (λ p. eqb (length p.bytes.now) 0) is ∙ sym c.if-is_empty.ensures) sorted (ap (λ p. p.place) is)

pub returns-then-is_number : goal.returns-then-is_number
returns-then-is_number c = made (goal.at.returns-then-is_number c).Else-is_empty _ refl (sym c.if-is_number.ensures)

pub returns-then-is_form : goal.returns-then-is_form
returns-then-is_form c = made (goal.at.returns-then-is_form c).Else-is_empty _ refl (sym c.if-is_form.ensures)

pub returns-else-is_form : goal.returns-else-is_form
returns-else-is_form c =
    let some = c.if-is_empty.ensures in
    let other = c.if-is_number.ensures in
    let no_form = c.if-is_form.ensures in
    made (goal.at.returns-else-is_form c).Else-is_empty _ refl (grind (arith, nat_tests))
