use Rattle.std.proofs.Common.{Some, None, arith}
use Rattle.scheme.proofs.BookLaws.{marked}
use Rattle.scheme.proofs.books.Book.mark_of.Goals as goal

pub returns-in_err-line : goal.returns-in_err-line
returns-in_err-line c = rw c.from_residual.ensures (marked c.args.self.now c.args.place None c.in_err-line.ensures)

pub returns : goal.returns
returns c = (marked c.args.self.now c.args.place (Some c.in_ok-line.line) c.in_ok-line.ensures, omega arith)
