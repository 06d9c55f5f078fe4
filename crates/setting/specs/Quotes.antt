-- The quoted round. Assumes nothing.
--   round      the round by which all have acted, where c are sound and the lead is one of them
--   possible   at most t of n switches are faulty, so c, the number of sound ones, is from n - t to n
--   quoted     the round, or the first rule that n, t and c break
--   Breaks     the number and the position of the first rule that is broken, and by what: 21 looks at n, 22 at t, 14 at c
--   Lawful     what a plant may rely on of an answer, in plain arithmetic
use Rattle.std.specs.Prelude.{◌≡◌, ℕ, ◌+◌, ◌-◌, ◌<◌, ◌≤◌, max, Bool, if◌then◌else◌, ◌&&◌, ◌⊎◌, Some, None, Ok, Err, Option, Result, nat_le}
use Rattle.setting.specs.declared.refusals.Refusal.{Refusal}
use Rattle.setting.specs.declared.refusals.Refusal.TheVariants.{SoundCount}
use Rattle.setting.specs.Settings.{unfit}

abbrev pub round : ℕ → ℕ → ℕ
round t c = max 2 (t + 3 - c)

abbrev pub possible : ℕ → ℕ → ℕ → Bool
possible n t c = nat_le (n - t) c && nat_le c n

-- what is answered for c, once n and t have been looked at
abbrev pub counted : ℕ → ℕ → ℕ → Option Refusal → Result ℕ Refusal
counted n t c (Some e) = Err e
counted n t c None = if possible n t c then Ok (round t c) else Err SoundCount

abbrev pub quoted : ℕ → ℕ → ℕ → Result ℕ Refusal
quoted n t c = counted n t c (unfit n t)

pub data Breaks (n t c : ℕ) : ℕ → ℕ → Type 0 where
  size : (n < 2) ⊎ (12 < n) → Breaks n t c 21 0
  tolerance : 2 ≤ n → n ≤ 12 → (t < 1) ⊎ (n ≤ t) → Breaks n t c 22 0
  sound : 2 ≤ n → n ≤ 12 → 1 ≤ t → t < n → (c + t < n) ⊎ (n < c) → Breaks n t c 14 0

pub record Lawful (n t c : ℕ) (r : Result ℕ Refusal) : Type 0 where
  pub at_least_two : (v : ℕ) → r ≡ Ok v → 2 ≤ v
  -- where the lead is not alone, no ring needs more than its t + 1 rounds
  pub within_the_run : (v : ℕ) → r ≡ Ok v → 2 ≤ c → v ≤ t + 1
  -- more sound switches never make it later
  pub never_later : (c' v v' : ℕ) → c ≤ c' → r ≡ Ok v → quoted n t c' ≡ Ok v' → v' ≤ v
  pub two_once_more_than_t : (v : ℕ) → r ≡ Ok v → t < c → v ≡ 2
