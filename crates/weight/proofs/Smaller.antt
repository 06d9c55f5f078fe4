-- A chain that bears a weight bears every smaller one: with each step down at most one more name is hidden. Assumes nothing.
use Rattle.std.proofs.Common.{◌≡◌, ℕ, ◌+◌, ◌-◌, ◌≤◌, Bool, false, not, ◌&&◌, List, ◌++◌, take, drop, sym, ap, ◌∙◌, arith, length-drop, take-append-drop, length-take, take-take}
use Rattle.std.proofs.lemmas.Bool.{and_parts, and_from, or_from, not-true, not_from_false}
use Rattle.counting.specs.Lists.{has, tally}
use Rattle.counting.proofs.Crowds.{tally_grows, tally_without, has-append}
use Rattle.weight.specs.Weights.{Smaller}

-- one list of hidden names, and a longer one of the same chain
longer : (S : ℕ → Bool) (n k more : ℕ) (names : List ℕ) → k ≤ more → tally (λ q. S q && not (has q (take k names))) n ≤ tally (λ q. S q && not (has q (take more names))) n + (more - k)
longer S n k more names le =
    let extra = drop k (take more names) in
    let whole : take k names ++ extra ≡ take more names = ap (λ l. l ++ extra) (sym (take-take k more names le)) ∙ take-append-drop k (take more names) in
    let few = length-drop k (take more names) in
    let short = length-take more names in
    let without = tally_without (λ q. S q && not (has q (take k names))) extra n in
    let same = tally_grows (λ q. (S q && not (has q (take k names))) && not (has q extra)) (λ q. S q && not (has q (take more names))) n (λ q _ on.
    let a = and_parts (S q && not (has q (take k names))) (not (has q extra)) on in
    let b = and_parts (S q) (not (has q (take k names))) a.0 in
    let none : has q (take more names) ≡ false = ap (has q) (sym whole) ∙ has-append (take k names) extra q ∙ or_from _ _ (not-true _ b.1) (not-true _ a.1) in
    and_from _ _ b.0 (not_from_false _ none)) in
    omega arith

pub smaller : (n t : ℕ) → Smaller n t
smaller n t S names w v le bears =
    let more = longer S n (t + 2 - w) (t + 2 - v) (drop 1 names) (omega arith) in
    omega arith
