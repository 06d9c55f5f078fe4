-- The invariant leaves a line for a place that is not signed, and holds with it.
use Rattle.std.proofs.Common.{arith, length-set}
use Rattle.scheme.proofs.BookLaws.{line_left, next_apart, next_low}
use Rattle.scheme.proofs.books.Book.write_next.Goals as goal

pub bounds-self-self : goal.bounds-self-self
bounds-self-self c = (line_left c.args.self.now _ c.requires.below c.requires.new).0

pub overflow_add-self : goal.overflow_add-self
overflow_add-self c = grind (arith, line_left c.args.self.now c.args.place)

pub invariant_of-self : goal.invariant_of-self
invariant_of-self c =
    let b = c.args.self.now in
    let left = line_left b _ c.requires.below c.requires.new in
    let long = length-set b.lines.now b.used c.args.place in
    record {
      few = b.few;
      enough = omega (arith, b.enough);
      within = omega arith;
      apart = next_apart b _ c.requires.below c.requires.new;
      low = next_low b _ c.requires.below c.requires.new;
    }
