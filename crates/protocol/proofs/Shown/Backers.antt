-- In the last round every backer of an order is known to everyone who still waits, under a faulty lead. Assumes nothing.
use Rattle.std.proofs.Common.{◌≡◌, ℕ, ◌+◌, ◌≤◌, Bool, true, false, List, [], ◌∷◌, ◌++◌, length, get_or, sym, ap, subst, arith}
use Rattle.weight.specs.Weights.{Seconds}
use Rattle.protocol.specs.Rings.{Ring, Fair, Follows}
use Rattle.protocol.specs.States.{State}
use Rattle.protocol.proofs.Invariant.{Invariant, Stayed, current}
use Rattle.protocol.proofs.Shown.Seen.{Seen, front, further, seen}
use Rattle.protocol.proofs.Shown.Through.{stayed_less}

-- a chain and a front of two or more names have the same second name
front_second : (held : List ℕ → Bool) (S : ℕ → Bool) → Seconds held S → (l q : ℕ) (others shown rest : List ℕ) → l ∷ q ∷ others ≡ shown ++ rest → 2 ≤ length shown → held shown ≡ true → S q ≡ true
front_second held S seconds l q others [] rest whole long here = absurd (omega arith)
front_second held S seconds l q others (a ∷ []) rest whole long here = absurd (omega arith)
front_second held S seconds l q others (a ∷ b ∷ more) rest whole long here =
    subst (λ p. S p ≡ true) (sym (ap (λ names. get_or names 1 0) whole)) (seconds.each a b more here)

-- what is seen of a chain has its second name
seen_second : (s : State) (i j m : ℕ) (S : ℕ → Bool) → Seconds (s.taken j m) S → (l q : ℕ) (others : List ℕ) → Seen s i j m (l ∷ q ∷ others) → S q ≡ true
seen_second s i j m S seconds l q others (front shown rest whole long here) = front_second (s.taken j m) S seconds l q others shown rest whole long here
seen_second s i j m S seconds l q others (further here) = seconds.each l q (others ++ i ∷ []) here

module _ (g : Ring) (fair : Fair g) (s : State) (inv : Invariant g s) (faulty : g.sound g.lead ≡ false) (last : g.t + 1 ≤ current s) (i j m : ℕ) (S : ℕ → Bool) (follows_i : Follows g i) (follows_j : Follows g j) (stayed : Stayed inv.left j (g.t + 1)) (seconds : Seconds (s.taken i m) S) where
  -- every backer that i knows is one that j knows
  pub backers_visible : (S' : ℕ → Bool) → Seconds (s.taken j m) S' → (q : ℕ) → S q ≡ true → S' q ≡ true
  backers_visible S' seconds' q backs =
      let by = seconds.only q backs in
      seen_second s i j m S' seconds' by.0 q by.1 (seen g fair s inv faulty last i j m follows_i follows_j stayed (by.0 ∷ q ∷ by.1) by.2)

  -- if i backs the order itself, j holds i's chain of two names
  pub own_chain : S i ≡ true → (l : ℕ) × (s.taken j m (l ∷ i ∷ []) ≡ true)
  own_chain backs =
      let by = seconds.only i backs in
      let least = fair.least in
      let signed = (inv.held i m (by.0 ∷ i ∷ by.1) follows_i by.2).shown 1 (omega arith) in
      (by.0, (inv.delivered i m (by.0 ∷ []) follows_i signed).all j follows_j (stayed_less inv.left j (g.t + 1) 2 (omega arith) stayed))
