-- Lemma: a grid's marks are lawful. Its `impl` hands it to the trait. Assumes nothing.
use Rattle.std.proofs.Common.{arith}
use Rattle.scheme.specs.declared.grids.Grid.{Grid}
use Rattle.scheme.specs.Grids.{grid_marks}
use Rattle.scheme.specs.Ledgers.{Lawful}

pub grid_lawful : Lawful (λ (g : Grid). g.count) grid_marks
grid_lawful = record { outside = λ g p high. grind arith; narrow = λ g p. grind (arith, g.few) }
