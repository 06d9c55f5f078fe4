-- Searching downwards for the greatest weight that a taken chain bears. Assumes nothing.
--   NoneHeavier   no held chain bears more than w
--   NoneBefore    no held chain at a place below `at` bears w
use Rattle.std.proofs.Common.{◌≡◌, ℕ, ◌+◌, ◌-◌, ◌<◌, ◌≤◌, Bool, true, false, not, ◌&&◌, List, ◌∷◌, length, sym, ap, ◌∙◌, ⊎_elim, arith}
use Rattle.std.proofs.lemmas.Bool.{true≢false, cases_Bool, cases_lt, and_parts}
use Rattle.counting.specs.Lists.{has, tally}
use Rattle.counting.proofs.Crowds.{tally_grows}
use Rattle.counting.proofs.Tallies.{tally_past}
use Rattle.chain.specs.Places.{within}
use Rattle.chain.proofs.ProperChains.{second_low}
use Rattle.weight.specs.declared.cells.Cell.{Cell}
use Rattle.weight.specs.Cells.{taken_at, held_in}
use Rattle.weight.specs.Weights.{Seconds, Bears, Borne, hidden}
use Rattle.weight.proofs.HeldChains.{held_proper, held_taken, held_inside, long_within}

abbrev pub NoneHeavier : (n t : ℕ) → (List ℕ → Bool) → (ℕ → Bool) → ℕ → Type 0
NoneHeavier n t held S w = (v : ℕ) → Borne n t held S v → v ≤ w

abbrev pub NoneBefore : (n t lead : ℕ) → List Cell → (ℕ → Bool) → ℕ → ℕ → Type 0
NoneBefore n t lead part S w at = (names : List ℕ) → held_in n t lead part names ≡ true → 2 ≤ length names → within n names < at → Bears n t S w names → ⊥

-- a set of names of a ring has all its names below n
pub all_in_ring : (n : ℕ) (S : ℕ → Bool) → n ≤ 12 → ((q : ℕ) → n ≤ q → S q ≡ false) → tally S 16 ≡ tally S n
all_in_ring n S few none = let e : 16 ≡ n + (16 - n) = omega arith in ap (tally S) e ∙ tally_past S n (16 - n) none

module _ (n t lead : ℕ) (part : List Cell) (S : ℕ → Bool) (s : Seconds (held_in n t lead part) S) where
  -- all names of S are of the ring
  pub seconds_low : (q : ℕ) → n ≤ q → S q ≡ false
  seconds_low q past =
      ⊎_elim
      (λ on. let chain = s.only q on in let low = second_low n t lead chain.0 q chain.1 (held_proper n t lead part _ chain.2) in absurd (omega arith))
      (λ off. off)
      (cases_Bool (S q))

  -- nothing bears more than |S| + 2
  pub start : n ≤ 12 → (count : ℕ) → count ≡ tally S 16 → NoneHeavier n t (held_in n t lead part) S (count + 2)
  start few count is v borne =
      let all = all_in_ring n S few seconds_low in
      let less = tally_grows (λ q. S q && not (has q (hidden t v borne.names))) S n (λ q _ on. (and_parts (S q) _ on).0) in
      let bears = borne.bears in
      omega arith

  -- a chain of two or more names is held where S is not empty, and it bears 2
  pub bears_two : (q : ℕ) → S q ≡ true → Borne n t (held_in n t lead part) S 2
  bears_two q on = let chain = s.only q on in record { names = chain.0 ∷ q ∷ chain.1; here = chain.2; long = omega arith; bears = omega arith }

module _ (n t lead : ℕ) (part : List Cell) (S : ℕ → Bool) (w : ℕ) where
  -- the first place is that of the chain of the lead alone
  pub none_first : NoneBefore n t lead part S w 1
  none_first names held long first bears = let past = long_within n t lead names (held_proper n t lead part names held) long in omega arith

  -- one place more at which no held chain bears w
  pub none_more : (at : ℕ) → ((names : List ℕ) → held_in n t lead part names ≡ true → within n names ≡ at → Bears n t S w names → ⊥) → NoneBefore n t lead part S w at → NoneBefore n t lead part S w (at + 1)
  none_more at here before names held long low bears = ⊎_elim (λ less. before names held long less bears) (λ past. here names held (omega arith) bears) (cases_lt (within n names) at)

  pub none_skip : (at : ℕ) → taken_at part at ≡ false → NoneBefore n t lead part S w at → NoneBefore n t lead part S w (at + 1)
  none_skip at off = none_more at (λ names held is _. true≢false (sym (held_taken n t lead part names held) ∙ ap (taken_at part) is ∙ off))

  -- no held chain bears w, so the search goes on with w - 1
  pub one_less : (at : ℕ) → length part ≤ at → NoneBefore n t lead part S w at → NoneHeavier n t (held_in n t lead part) S w → NoneHeavier n t (held_in n t lead part) S (w - 1)
  one_less at end none most v borne =
      let le = most v borne in
      let inside = held_inside n t lead part borne.names borne.here in
      ⊎_elim
      (λ less. omega arith)
      (λ ge. let same : v ≡ w = omega arith in absurd (none borne.names borne.here borne.long (omega arith) (rw same at borne.bears)))
      (cases_lt v w)
