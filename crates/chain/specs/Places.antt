-- The place numbers of chains. Assumes nothing.
--   per_order   N, the number of proper chains of one order
--   within      the place of a chain among those of its order: the shorter chains are before it, then its rank
--   place_of    the place of a chain among all: N places for each code
--   precedes    a chain comes before another: by its code, then by the number of names, then as in a dictionary
--   At          the chain of a place
--   Places      places have the order of the chains, and no two chains share one; chains of one code and number of names
--               have one range of places; and each number is the place of a proper chain of its code
--   Spans       the places from start up to end are those of the chains of one code with so many names
use Rattle.std.specs.Prelude.{◌≡◌, ℕ, ◌+◌, ◌-◌, ◌*◌, ◌/◌, ◌<◌, ◌≤◌, Bool, ◌&&◌, ◌||◌, List, [], ◌∷◌, length, ◌==◌, nat_lt}
use Rattle.chain.specs.Chains.{Proper}
use Rattle.chain.specs.Ranks.{shorter, rank, sooner}

abbrev pub per_order : (n t : ℕ) → ℕ
per_order n t = shorter (n - 1) (t + 1)

abbrev pub within : ℕ → List ℕ → ℕ
within n [] = 0
within n (lead ∷ xs) = shorter (n - 1) (length xs) + rank (n - 1) (lead ∷ []) xs

abbrev pub place_of : (n t code : ℕ) → List ℕ → ℕ
place_of n t code names = code * per_order n t + within n names

abbrev pub precedes : ℕ → List ℕ → ℕ → List ℕ → Bool
precedes c a d b = nat_lt c d || (c == d && (nat_lt (length a) (length b) || (length a == length b && sooner a b)))

pub record At (n t lead place : ℕ) : Type 0 where
  pub names : List ℕ
  pub proper : Proper n t lead names
  pub there : place_of n t (place / per_order n t) names ≡ place

pub record Places (n t lead : ℕ) : Type 0 where
  pub ordered : (c d : ℕ) (a b : List ℕ) → Proper n t lead a → Proper n t lead b → nat_lt (place_of n t c a) (place_of n t d b) ≡ precedes c a d b
  pub apart : (c d : ℕ) (a b : List ℕ) → Proper n t lead a → Proper n t lead b → place_of n t c a ≡ place_of n t d b → (c ≡ d) × (a ≡ b)
  pub from : (c : ℕ) (a : List ℕ) → Proper n t lead a → c * per_order n t + shorter (n - 1) (length a - 1) ≤ place_of n t c a
  pub to : (c : ℕ) (a : List ℕ) → Proper n t lead a → place_of n t c a < c * per_order n t + shorter (n - 1) (length a)
  pub onto : (place : ℕ) → lead < n → At n t lead place

pub record Spans (n t lead code count start end : ℕ) : Type 0 where
  pub inside : (a : List ℕ) → Proper n t lead a → length a ≡ count → (start ≤ place_of n t code a) × (place_of n t code a < end)
  pub only : (d : ℕ) (a : List ℕ) → Proper n t lead a → start ≤ place_of n t d a → place_of n t d a < end → (d ≡ code) × (length a ≡ count)
