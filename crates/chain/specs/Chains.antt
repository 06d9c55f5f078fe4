-- The names of a proper chain. Assumes nothing.
--   Proper      the lead first, then others, at most t + 1 in all, each below n, none twice
--   is_proper   the same as a test
--   Grows       its fronts are proper, and so is it with one new name more, while it has at most t
use Rattle.std.specs.Prelude.{◌≡◌, ℕ, suc, ◌+◌, ◌<◌, ◌≤◌, Bool, true, false, ◌&&◌, List, [], ◌∷◌, ◌++◌, length, take, ◌==◌, nat_le}
use Rattle.counting.specs.Lists.{has, below, distinct}

pub record Proper (n t lead : ℕ) (names : List ℕ) : Type 0 where
  pub others : List ℕ
  pub split : names ≡ lead ∷ others
  pub short : length names ≤ t + 1
  pub within : below n names ≡ true
  pub apart : distinct names ≡ true

abbrev pub is_proper : (n t lead : ℕ) → List ℕ → Bool
is_proper n t lead [] = false
is_proper n t lead (x ∷ xs) = x == lead && (nat_le (length (x ∷ xs)) (t + 1) && (below n (x ∷ xs) && distinct (x ∷ xs)))

pub record Grows (n t lead : ℕ) (names : List ℕ) : Type 0 where
  pub front : (k : ℕ) → Proper n t lead (take (suc k) names)
  pub more : (q : ℕ) → length names ≤ t → q < n → has q names ≡ false → Proper n t lead (names ++ q ∷ [])
