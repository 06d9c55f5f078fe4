-- What holds of counting. Assumes nothing.
--   Counted   a list of different numbers below n has as many as there are numbers below n that stand in it, which is at
--             most n, and less where a number below n is missing; a list in which as many stand as it is long has none
--             twice; a wider test counts no fewer, two tests that nothing passes both of count together what either
--             counts, and leaving out a list takes away at most its length; and where more pass one test than fail
--             another, one number passes both
use Rattle.std.specs.Prelude.{◌≡◌, ℕ, ◌+◌, ◌<◌, ◌≤◌, Bool, true, false, not, ◌&&◌, ◌||◌, List, length}
use Rattle.counting.specs.Lists.{has, distinct, below, tally}

pub record Counted : Type 0 where
  pub each_once : (xs : List ℕ) (n : ℕ) → distinct xs ≡ true → below n xs ≡ true → tally (λ p. has p xs) n ≡ length xs
  pub at_most : (xs : List ℕ) (n : ℕ) → distinct xs ≡ true → below n xs ≡ true → length xs ≤ n
  pub room : (xs : List ℕ) (n p : ℕ) → distinct xs ≡ true → below n xs ≡ true → p < n → has p xs ≡ false → length xs < n
  pub none_twice : (xs : List ℕ) (n : ℕ) → tally (λ p. has p xs) n ≡ length xs → distinct xs ≡ true
  pub wider : (f g : ℕ → Bool) (n : ℕ) → ((p : ℕ) → p < n → f p ≡ true → g p ≡ true) → tally f n ≤ tally g n
  pub apart : (f g : ℕ → Bool) (n : ℕ) → ((p : ℕ) → p < n → f p ≡ true → g p ≡ false) → tally (λ p. f p || g p) n ≡ tally f n + tally g n
  pub without : (f : ℕ → Bool) (xs : List ℕ) (n : ℕ) → tally f n ≤ tally (λ p. f p && not (has p xs)) n + length xs
  pub crowd : (f g : ℕ → Bool) (n : ℕ) → tally (λ p. not (g p)) n < tally f n → (p : ℕ) × (p < n) × (f p ≡ true) × (g p ≡ true)
