use Rattle.scheme.proofs.BookLaws.{entries_are}
use Rattle.scheme.proofs.books.signing.BookScheme.entries.Goals as goal

pub returns : goal.returns
returns c = entries_are c.args.self.now
