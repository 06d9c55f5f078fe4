use Rattle.std.proofs.Common.{◌+◌, ◌-◌, length, take, drop, subst, rules}
use Rattle.std.proofs.lemmas.Slice.{first_rest}
use Rattle.script.specs.Items.{Reads}
use Rattle.script.proofs.Cuts.{next_number_is}
use Rattle.script.proofs.rests.Rest.next_number.Goals as goal

pub returns-clause-number : goal.returns-clause-number
returns-clause-number c =
    let next = c.in-Some-Number-default in
    next_number_is _ _ _ (first_rest c.args.self.bytes.now 0 (search rules)) _ _
    (subst (λ i. Reads (take (length c.args.self.bytes.now - 1) (drop 1 c.args.self.bytes.now)) (c.args.self.place + 1) i next.rest.bytes.now) next.field-0-0-is next.ensures.item)
