use Rattle.std.proofs.Common.{◌∙◌}
use Rattle.scheme.proofs.BookLaws.{checked}
use Rattle.scheme.proofs.books.signing.BookScheme.check.Goals as goal

pub returns : goal.returns
returns c = c.eq.ensures ∙ checked c.args.self.now _ _ _ c.place_of.ensures
