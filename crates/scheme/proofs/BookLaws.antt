-- What a book's invariant gives. Assumes nothing.
use Rattle.std.proofs.Common.{◌≡◌, ℕ, ◌+◌, ◌-◌, ◌<◌, ◌≤◌, ◌⊎◌, true, eqb, ltb, List, [], ◌∷◌, ◌++◌, length, get_or, take, set, sym, ap, ◌∙◌, MatchOption, position, Some, None, Option, arith, rules, length-take-le, get_or-take}
use Rattle.std.specs.Option.{option_eq}
use Rattle.std.proofs.lemmas.List.{take_more_set}
use Rattle.counting.specs.Lists.{has, distinct, below}
use Rattle.counting.proofs.Pushes.{distinct_push, below_push}
use Rattle.counting.proofs.Tallies.{tally_alike, each_once, room}
use Rattle.scheme.specs.declared.books.Book.{Book}
use Rattle.scheme.specs.BookLawful.{book_lawful}
use Rattle.scheme.specs.Books.{marks, NextLine}
use Rattle.scheme.specs.Ledgers.{recorded, checks, Signs}
use Rattle.scheme.proofs.LineNumbers.{line_has, line_number, line_at, line_stands, line_push_new, line_push_other}

module _ (b : Book) where
  -- the places that are signed
  abbrev front : List ℕ
  front = take b.used b.lines.now

  front_long : length front ≡ b.used
  front_long = length-take-le b.used b.lines.now b.within

  -- the mark of a place is one more than the index of its line
  pub marked : (p : ℕ) (o : Option ℕ) → o ≡ position (λ line. eqb line p) front → MatchOption o (marks b p ≡ 0) (λ i. marks b p ≡ i + 1)
  marked = line_number front

  pub entries_are : b.used ≡ recorded (marks b) b.count
  entries_are =
      sym (tally_alike (λ p. ltb 0 (marks b p)) (λ p. has p front) b.count (λ p _. line_has front p) ∙ each_once front b.count b.apart b.low ∙ front_long)

  -- what is read in the line that a mark numbers checks as the ledger does
  pub checked : (o : Option ℕ) (p m : ℕ) → MatchOption o ((m ≡ 0) ⊎ (b.used < m)) (λ q. (1 ≤ m) × (m ≤ b.used) × (q ≡ get_or b.lines.now (m - 1) 0)) → option_eq eqb o (Some p) ≡ checks (marks b) p m
  checked None p m h = grind (arith, line_stands 1 front p m, front_long)
  checked (Some q) p m h =
      grind (arith, line_stands 1 front p m, line_at 1 front (m - 1) b.apart, front_long, get_or-take b.used b.lines.now (m - 1) 0)

  -- a place that is not below the count
  pub refuses : (p : ℕ) → b.count ≤ p → Signs b.count (marks b) (marks b) p 0
  refuses p high = let none = book_lawful.outside b p high in search rules

-- a place that is signed next
module _ (b : Book) (p : ℕ) (low : p < b.count) (none : marks b p ≡ 0) where
  -- there is a line left for it
  pub line_left : (b.used < length b.lines.now) × (b.used < 16384)
  line_left =
      let left : b.used < b.count = grind (arith, front_long b, room (front b) b.count p b.apart b.low, line_has (front b) p) in
      (omega (arith, b.enough), omega (arith, b.few))

  next_is : take (b.used + 1) (set b.lines.now b.used p) ≡ front b ++ p ∷ []
  next_is = take_more_set b.lines.now b.used p line_left.0

  pub next_apart : distinct (take (b.used + 1) (set b.lines.now b.used p)) ≡ true
  next_apart = grind (arith, next_is, distinct_push (front b) p b.apart, line_has (front b) p)

  pub next_low : below b.count (take (b.used + 1) (set b.lines.now b.used p)) ≡ true
  next_low = ap (below b.count) next_is ∙ below_push b.count (front b) p b.low low

  pub signs_next : (b' : Book) (m : ℕ) → NextLine b p b' m → Signs b.count (marks b) (marks b') p m
  signs_next b' m next =
      let front_next : front b' ≡ front b ++ p ∷ [] = (λ i. take (next.used i) (next.lines i)) ∙ next_is in
      record {
        outside = λ high. grind arith;
        marked = λ _. grind arith;
        recorded = grind (arith, front_next, front_long b, line_has (front b) p, line_push_new 1 (front b) p);
        kept = λ some. grind arith;
        others = λ q other. grind (arith, front_next, line_push_other 1 (front b) p q other);
      }
