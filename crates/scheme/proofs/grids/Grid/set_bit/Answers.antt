use Rattle.std.proofs.Common.{◌/◌, ◌<◌, length, arith, refl, rules}
use Rattle.scheme.proofs.GridLaws.{signed_most, word_set, tally_set}
use Rattle.scheme.proofs.grids.Grid.set_bit.Goals as goal

pub overflow_add-self : goal.overflow_add-self
overflow_add-self c = grind (arith, signed_most c.args.self.now)

pub invariant_of-self-clause-tallied : goal.invariant_of-self-clause-tallied
invariant_of-self-clause-tallied c =
    let g = c.args.self.now in
    let few = g.few in
    let word : c.args.place / 64 < length g.bits = search rules in
    grind (arith, g.tallied, tally_set g.bits _ g.count c.args.place c.requires.below c.requires.unset (λ q. word_set g.bits c.args.place q word))

pub returns : goal.returns
returns c =
    let g = c.args.self.now in
    let few = g.few in
    let word : c.args.place / 64 < length g.bits = search rules in
    record { count = refl; bits = λ q. word_set g.bits c.args.place q word }
