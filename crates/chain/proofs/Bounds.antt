-- How large the counts of chains become. Assumes nothing.
use Rattle.std.proofs.Common.{◌≡◌, ℕ, zero, suc, ◌+◌, ◌-◌, ◌*◌, ◌≤◌, sym, ap, ◌∙◌, subst, mul_assoc, suc-mul, mul-le-mul_left, one-mul, mul-zero, zero-mul, mul-one, mul-add, arith}
use Rattle.chain.specs.Ranks.{ways, shorter}

-- one name more, written last
pub ways_last : (free k : ℕ) → ways free (suc k) ≡ ways free k * (free - k)
ways_last free zero = let a = mul-one free in let b = one-mul (free - 0) in omega arith
ways_last free (suc k) =
    let r = ways_last (free - 1) k in
    let e : free - 1 - k ≡ free - suc k = omega arith in
    ap (λ z. free * z) (r ∙ ap (λ z. ways (free - 1) k * z) e) ∙ sym (mul_assoc free (ways (free - 1) k) (free - suc k))

-- the counts by the name written first
pub shorter_front : (free k : ℕ) → shorter free (suc k) ≡ 1 + free * shorter (free - 1) k
shorter_front free zero = let m = mul-zero free in omega arith
shorter_front free (suc k) = let r = shorter_front free k in let m = mul-add free (shorter (free - 1) k) (ways (free - 1) k) in omega arith

-- all ways to write different names out of `free`
abbrev all_ways : ℕ → ℕ
all_ways zero = 1
all_ways (suc free) = 1 + suc free * all_ways free

shorter_most : (free k : ℕ) → shorter free k ≤ all_ways free
shorter_most free zero = omega arith
shorter_most zero (suc k) = let f = shorter_front 0 k in let z = zero-mul (shorter (0 - 1) k) in omega arith
shorter_most (suc free) (suc k) =
    let f = shorter_front (suc free) k in
    let e : suc free - 1 ≡ free = omega arith in
    let g = ap (λ z. suc free * shorter z k) e in
    let m = mul-le-mul_left (suc free) (shorter_most free k) in
    omega arith

all_ways_grow : (free d : ℕ) → all_ways free ≤ all_ways (free + d)
all_ways_grow free zero = let e : free + 0 ≡ free = omega arith in let h = ap all_ways e in omega arith
all_ways_grow free (suc d) =
    let r = all_ways_grow free d in
    let e : free + suc d ≡ suc (free + d) = omega arith in
    let h = ap all_ways e in
    let m = suc-mul (free + d) (all_ways (free + d)) in
    omega arith

-- a ring of twelve has eleven others
pub shorter_low : (free k : ℕ) → free ≤ 11 → shorter free k ≤ 108505112
shorter_low free k few =
    let e : free + (11 - free) ≡ 11 = omega arith in
    let g : all_ways free ≤ 108505112 = subst (λ z. all_ways free ≤ all_ways z) e (all_ways_grow free (11 - free)) in
    let m = shorter_most free k in
    omega arith

pub ways_low : (free k : ℕ) → free ≤ 11 → ways free k ≤ 108505112
ways_low free k few = let s = shorter_low free (suc k) few in omega arith
