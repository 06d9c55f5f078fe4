-- Fronts of proper chains, proper chains with one name more, and the test for proper chains. Assumes nothing.
use Rattle.std.proofs.Common.{◌≡◌, ℕ, suc, ◌<◌, ◌≤◌, true, false, List, [], ◌∷◌, ◌++◌, length, get_or, take, sym, ap, arith, length-append, length-take}
use Rattle.std.proofs.lemmas.Bool.{true≢false, and_parts, and_from, eqb-true, eq-eqb, leb-true, le-leb}
use Rattle.counting.specs.Lists.{has}
use Rattle.counting.proofs.Prefixes.{distinct-take, below-take}
use Rattle.counting.proofs.Pushes.{distinct_push, below_push, below_at}
use Rattle.chain.specs.Chains.{Proper, is_proper, Grows}

module _ (n t lead : ℕ) (names : List ℕ) (p : Proper n t lead names) where
  pub proper_front : (k : ℕ) → Proper n t lead (take (suc k) names)
  proper_front k =
      record {
        others = take k p.others;
        split = ap (take (suc k)) p.split;
        short = let l = length-take (suc k) names in let s = p.short in omega arith;
        within = below-take n (suc k) names p.within;
        apart = distinct-take (suc k) names p.apart;
      }

  pub proper_more : (q : ℕ) → length names ≤ t → q < n → has q names ≡ false → Proper n t lead (names ++ q ∷ [])
  proper_more q few low new =
      record {
        others = p.others ++ q ∷ [];
        split = ap (λ l. l ++ q ∷ []) p.split;
        short = let l = length-append names (q ∷ []) in omega arith;
        within = below_push n names q p.within low;
        apart = distinct_push names q p.apart new;
      }

  pub grows : Grows n t lead names
  grows = record { front = proper_front; more = proper_more }

-- the test passes exactly the proper chains
pub proper_from : (n t lead : ℕ) (names : List ℕ) → is_proper n t lead names ≡ true → Proper n t lead names
proper_from n t lead [] on = absurd (true≢false (sym on))
proper_from n t lead (x ∷ xs) on =
    let a = and_parts _ _ on in
    let b = and_parts _ _ a.1 in
    let c = and_parts _ _ b.1 in
    record { others = xs; split = ap (λ y. y ∷ xs) (eqb-true x lead a.0); short = leb-true _ _ b.0; within = c.0; apart = c.1 }

pub proper_test : (n t lead : ℕ) (names : List ℕ) → Proper n t lead names → is_proper n t lead names ≡ true
proper_test n t lead [] p = let l = ap length p.split in absurd (omega arith)
proper_test n t lead (x ∷ xs) p =
    and_from _ _ (eq-eqb x lead (ap (λ l. get_or l 0 0) p.split)) (and_from _ _ (le-leb _ _ p.short) (and_from _ _ p.within p.apart))

-- a second name is of the ring
pub second_low : (n t lead l q : ℕ) (rest : List ℕ) → Proper n t lead (l ∷ q ∷ rest) → q < n
second_low n t lead l q rest p = below_at n (l ∷ q ∷ rest) 1 p.within (omega arith)
