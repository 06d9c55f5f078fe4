use Rattle.scheme.proofs.BookLaws.{refuses, signs_next}
use Rattle.scheme.proofs.books.signing.BookScheme.sign.Goals as goal

pub returns-then-place-self-clause-signs : goal.returns-then-place-self-clause-signs
returns-then-place-self-clause-signs c = refuses c.args.self.now _ c.if-place-self.true

pub returns-in-None-clause-signs : goal.returns-in-None-clause-signs
returns-in-None-clause-signs c = signs_next c.args.self.now _ c.if-place-self.false c.in-None.ensures _ _ c.write_next.ensures
