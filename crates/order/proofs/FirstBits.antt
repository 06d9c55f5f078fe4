-- The smallest code of a set, by the count of zeros below the first bit of its mask. Assumes nothing.
use Rattle.std.proofs.Common.{◌≡◌, ℕ, ◌%◌, ◌^◌, ◌<◌, ◌≤◌, true, false, nat_eq, w16, Some, None, ap, subst, sym, arith}
use Rattle.std.proofs.Math.Nat.{zero-div}
use Rattle.std.proofs.lemmas.Bool.{eq-eqb, ne_eqb}
use Rattle.std.proofs.lemmas.Nat.Bits.{bit_at-trailing_zeros}
use Rattle.std.specs.Int.{trailing_zeros}
use Rattle.order.specs.Masks.{least_is, least_none, nothing_below}
use Rattle.order.specs.Sets.{has, least}

pub least_empty : (m : ℕ) → m ≡ 0 → None ≡ least m
least_empty m none = subst (λ k. None ≡ least k) (sym none) (least_none 0 (λ j low. ap (λ n. nat_eq (n % 2) 1) (zero-div (2 ^ j))))

module _ (m : ℕ) (some : 0 < m) (low : m < 2 ^ 16) where
  on : has m (trailing_zeros w16 m) ≡ true
  on = eq-eqb _ 1 (bit_at-trailing_zeros w16 m some low).1

  off_below : (j : ℕ) → j < trailing_zeros w16 m → has m j ≡ false
  off_below j h = ne_eqb _ 1 (λ e. let off = (bit_at-trailing_zeros w16 m some low).2 j h in omega arith)

  pub least_first : Some (trailing_zeros w16 m) ≡ least m
  least_first = least_is m _ on off_below (bit_at-trailing_zeros w16 m some low).0

  pub none_below : (j : ℕ) → has m j ≡ true → trailing_zeros w16 m ≤ j
  none_below = nothing_below m _ on off_below
