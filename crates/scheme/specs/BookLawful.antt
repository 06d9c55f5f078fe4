-- Lemmas: a book's marks are lawful. Its `impl` hands the last of them to the trait. Assumes nothing.
use Rattle.std.specs.Prelude.{◌≡◌, ℕ, suc, ◌+◌, ◌≤◌, false, List, [], ◌∷◌, length, take, refl}
use Rattle.std.proofs.Common.{arith}
use Rattle.counting.specs.Lists.{has}
use Rattle.counting.proofs.Pushes.{not_has}
use Rattle.counting.proofs.Tallies.{at_most}
use Rattle.scheme.specs.declared.books.Book.{Book}
use Rattle.scheme.specs.Books.{marks}
use Rattle.scheme.specs.Ledgers.{Lawful}
use Rattle.scheme.specs.Lines.{line_of}

pub line_none : (k : ℕ) (xs : List ℕ) (p : ℕ) → has p xs ≡ false → line_of k xs p ≡ 0
line_none k [] p none = refl
line_none k (x ∷ xs) p none = grind (arith, line_none (suc k) xs p)

line_most : (k : ℕ) (xs : List ℕ) (p : ℕ) → line_of k xs p ≤ k + length xs
line_most k [] p = omega arith
line_most k (x ∷ xs) p = grind (arith, line_most (suc k) xs p)

pub book_lawful : Lawful (λ (b : Book). b.count) marks
book_lawful =
    record {
      outside = λ b p high. line_none 1 (take b.used b.lines.now) p (not_has b.count (take b.used b.lines.now) p b.low high);
      narrow = λ b p. omega (arith, line_most 1 (take b.used b.lines.now) p, at_most (take b.used b.lines.now) b.count b.apart b.low, b.few);
    }
