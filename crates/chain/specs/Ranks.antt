-- Chains by number. Assumes nothing.
--   ways      how many ways there are to write k different names out of `free`
--   shorter   how many ways there are to write fewer than k
--   is_new    a name does not stand in a list
--   nth       the number below n that passes a test and has d such numbers below it
--   rank      how many lists of as many new names stand before this one in a dictionary, where `free` names are new
--   spelled   the k new names of a rank
--   sooner    a list of names stands before another of as many names in a dictionary, names compared as numbers
use Rattle.std.specs.Prelude.{ℕ, zero, suc, ◌+◌, ◌-◌, ◌*◌, ◌/◌, ◌%◌, Bool, false, if◌then◌else◌, not, ◌&&◌, ◌||◌, List, [], ◌∷◌, length, ◌==◌, nat_lt}
use Rattle.counting.specs.Lists.{has, tally}

abbrev pub ways : (free k : ℕ) → ℕ
ways free zero = 1
ways free (suc k) = free * ways (free - 1) k

abbrev pub shorter : (free k : ℕ) → ℕ
shorter free zero = 0
shorter free (suc k) = shorter free k + ways free k

abbrev pub is_new : List ℕ → ℕ → Bool
is_new before q = not (has q before)

abbrev pub nth : (ℕ → Bool) → (n d : ℕ) → ℕ
nth f zero d = 0
nth f (suc n) d = if f n && tally f n == d then n else nth f n d

abbrev pub rank : (free : ℕ) → List ℕ → List ℕ → ℕ
rank free before [] = 0
rank free before (x ∷ xs) = tally (is_new before) x * ways (free - 1) (length xs) + rank (free - 1) (x ∷ before) xs

abbrev pub spelled : (n free : ℕ) → List ℕ → (k i : ℕ) → List ℕ
spelled n free before zero i = []
spelled n free before (suc k) i = nth (is_new before) n (i / ways (free - 1) k) ∷ spelled n (free - 1) (nth (is_new before) n (i / ways (free - 1) k) ∷ before) k (i % ways (free - 1) k)

abbrev pub sooner : List ℕ → List ℕ → Bool
sooner [] b = false
sooner (x ∷ xs) [] = false
sooner (x ∷ xs) (y ∷ ys) = nat_lt x y || (x == y && sooner xs ys)
