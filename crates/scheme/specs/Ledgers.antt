-- What a signing scheme's calls do to its ledger: the mark of each place, 0 where it is not signed. Assumes nothing.
--   Lawful     places that are not below the count are not signed, and marks have 32 bits
--   recorded   how many places below the count are signed
--   checks     the ledger has this mark at this place
--   Signs      what signing a place answers, and what it makes of the ledger
use Rattle.std.specs.Prelude.{◌≡◌, ℕ, ◌^◌, ◌<◌, ◌≤◌, Bool, ◌&&◌, ◌==◌, ◌≢◌, nat_lt}
use Rattle.counting.specs.Lists.{tally}

pub record Lawful {S : Type 0} (counted : S → ℕ) (ledger : S → ℕ → ℕ) : Type 0 where
  pub outside : (s : S) (p : ℕ) → counted s ≤ p → ledger s p ≡ 0
  pub narrow : (s : S) (p : ℕ) → ledger s p < 2 ^ 32

abbrev pub recorded : (ℕ → ℕ) → ℕ → ℕ
recorded ledger n = tally (λ p. nat_lt 0 (ledger p)) n

abbrev pub checks : (ℕ → ℕ) → ℕ → ℕ → Bool
checks ledger place mark = nat_lt 0 mark && ledger place == mark

pub record Signs (count : ℕ) (before after : ℕ → ℕ) (place mark : ℕ) : Type 0 where
  -- a place that is not below the count is answered 0
  pub outside : count ≤ place → mark ≡ 0
  -- any other is answered a mark, and that is what the ledger has
  pub marked : place < count → 1 ≤ mark
  pub recorded : after place ≡ mark
  -- a place that was signed keeps its mark
  pub kept : 0 < before place → mark ≡ before place
  pub others : (q : ℕ) → (q ≢ place) → after q ≡ before q
