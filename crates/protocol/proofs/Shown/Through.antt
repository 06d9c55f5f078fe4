-- A sound name in a held chain has shown the chain up to it to everyone. Assumes nothing.
--   Through   a follower q stands in the first x names of a chain of order m: the chain up to q is held by every follower
--             that waited in the round of q's signature
use Rattle.std.proofs.Common.{◌≡◌, ℕ, suc, ◌<◌, ◌≤◌, true, not, eqb, ltb, ◌≢◌, List, [], ◌∷◌, ◌++◌, length, get_or, take, drop, sym, ap, ◌∙◌, subst, inl, inr, ⊎_elim, arith, take-append-drop, length-take}
use Rattle.std.proofs.lemmas.List.{append_assoc}
use Rattle.std.proofs.lemmas.Bool.{and_parts, both_ways, eq-eqb, ltb-true, not-true, or_left}
use Rattle.counting.specs.Lists.{has, below, distinct}
use Rattle.counting.proofs.Splits.{split_at, take_to, length_front}
use Rattle.protocol.specs.Rings.{Ring, Fair, Follows}
use Rattle.protocol.specs.States.{State}
use Rattle.protocol.proofs.Invariant.{Invariant, Stayed}

pub record Through (g : Ring) (s : State) (left : ℕ → ℕ) (m x : ℕ) (names : List ℕ) : Type 0 where
  pub q : ℕ
  pub front : List ℕ
  pub rest : List ℕ
  pub follows : Follows g q
  pub whole : names ≡ front ++ q ∷ rest
  -- q is not the lead, so the lead stands before it
  pub some : 1 ≤ length front
  pub within : suc (length front) ≤ x
  pub reaches : (j : ℕ) → Follows g j → Stayed left j (suc (length front)) → s.taken j m (front ++ q ∷ []) ≡ true

-- a switch that waited in a round waited in each round before it
pub stayed_less : (left : ℕ → ℕ) (p r sooner : ℕ) → sooner ≤ r → Stayed left p r → Stayed left p sooner
stayed_less left p r sooner le stayed = ⊎_elim (λ waits. inl waits) (λ later. inr (omega arith)) stayed

-- a name that is not the first of a list has some before it
some_before : (first q : ℕ) (front rest others : List ℕ) → front ++ q ∷ rest ≡ first ∷ others → q ≢ first → 1 ≤ length front
some_before first q [] rest others same other = absurd (other (ap (λ l. get_or l 0 0) same))
some_before first q (x ∷ xs) rest others same other = omega arith

module _ (g : Ring) (fair : Fair g) (s : State) (inv : Invariant g s) where
  -- a held chain begins with the lead, and its second name is another one of the ring
  pub second_name : (p m l q : ℕ) (rest : List ℕ) → Follows g p → s.taken p m (l ∷ q ∷ rest) ≡ true → (l ≡ g.lead) × (q < g.n) × (q ≢ g.lead)
  second_name p m l q rest follows here =
      let proper = (inv.held p m (l ∷ q ∷ rest) follows here).proper in
      let first : l ≡ g.lead = ap (λ names. get_or names 0 0) proper.split in
      let low = (and_parts (ltb l g.n) (below g.n (q ∷ rest)) proper.within).1 in
      let once = not-true (has l (q ∷ rest)) (and_parts (not (has l (q ∷ rest))) (distinct (q ∷ rest)) proper.apart).0 in (
        first,
        ltb-true q g.n (and_parts (ltb q g.n) (below g.n rest) low).0,
        λ same. both_ways (has l (q ∷ rest)) once (or_left (eqb l q) (has l rest) (eq-eqb l q (first ∙ sym same))),
      )

  pub through : (p m q x : ℕ) (names : List ℕ) → Follows g p → s.taken p m names ≡ true → Follows g q → has q (take x names) ≡ true → Through g s inv.left m x names
  through p m q x names follows_p here follows_q in_it =
      let held = inv.held p m names follows_p here in
      let cut = split_at q (take x names) in_it in
      let front = cut.front in
      let rest = cut.rest ++ drop x names in
      let whole : names ≡ front ++ q ∷ rest = sym (take-append-drop x names) ∙ ap (λ l. l ++ drop x names) cut.whole ∙ append_assoc front (q ∷ cut.rest) (drop x names) in
      let most = length-take x names in
      let fits : suc (length front) ≤ length (take x names) = subst (λ l. suc (length front) ≤ length l) (sym cut.whole) (length_front front q cut.rest) in
      let shown : s.signed m (front ++ q ∷ []) ≡ true = subst (λ l. s.signed m l ≡ true) (ap (take (suc (length front))) whole ∙ take_to front q rest) (held.shown (length front) (omega arith)) in
      record {
        q = q;
        front = front;
        rest = rest;
        follows = follows_q;
        whole = whole;
        some = some_before g.lead q front rest held.proper.others (sym whole ∙ held.proper.split) follows_q.2;
        within = omega arith;
        reaches = (inv.delivered q m front follows_q shown).all;
      }
