-- A weight that is high enough for its round cannot be hidden from anyone who waited in that round. Assumes nothing.
--   Reached   switch j holds a chain of order m
use Rattle.std.proofs.Common.{◌≡◌, ℕ, suc, ◌+◌, ◌-◌, ◌<◌, ◌≤◌, Bool, true, false, not, ◌&&◌, ◌||◌, eqb, List, [], ◌∷◌, ◌++◌, length, take, drop, sym, refl, ap, ◌∙◌, subst, ⊎_elim, arith}
use Rattle.std.proofs.lemmas.List.{take_all, length-take-le}
use Rattle.std.proofs.lemmas.Bool.{and_parts, both_ways, cases_Bool, cases_eq, cases_lt, eq-eqb, eqb-true, not-true, or_cases, or_left, or_right}
use Rattle.counting.specs.Lists.{has, tally}
use Rattle.counting.proofs.Crowds.{Both, crowd, tally_apart, tally_grows}
use Rattle.counting.proofs.Prefixes.{below-take, distinct-take}
use Rattle.counting.proofs.Tallies.{each_once}
use Rattle.weight.specs.Weights.{Seconds, Borne, hidden}
use Rattle.protocol.specs.Rings.{Ring, Fair, Follows}
use Rattle.protocol.specs.States.{State}
use Rattle.protocol.proofs.Invariant.{Invariant, Stayed, current}
use Rattle.protocol.proofs.Shown.SoundLead.{first_chain, one_order}
use Rattle.protocol.proofs.Shown.Through.{second_name, stayed_less, through}

abbrev Reached : State → ℕ → ℕ → Type 0
Reached s j m = (names : List ℕ) × (s.taken j m names ≡ true)

-- the first r names of a chain are its first one and the r - 1 after it
first_names : (first r : ℕ) (names others : List ℕ) → 1 ≤ r → names ≡ first ∷ others → take r names ≡ first ∷ take (r - 1) (drop 1 names)
first_names first r names others some split =
    let one_more : r ≡ suc (r - 1) = omega arith in
    ap (λ k. take k names) one_more ∙ ap (take (suc (r - 1))) split ∙ ap (λ l. first ∷ take (r - 1) l) (sym (ap (drop 1) split))

-- of round r, and a follower j that waited in it
module _ (g : Ring) (fair : Fair g) (s : State) (inv : Invariant g s) (j m r : ℕ) (follows_j : Follows g j) (now : r ≤ current s) (stayed : Stayed inv.left j r) where
  -- a follower in the first r names of a held chain has shown the chain up to it to j
  reached_through : (p q x : ℕ) (names : List ℕ) → x ≤ r → Follows g p → s.taken p m names ≡ true → Follows g q → has q (take x names) ≡ true → Reached s j m
  reached_through p q x names le follows_p here follows_q in_it =
      let shown = through g fair s inv p m q x names follows_p here follows_q in_it in
      let within = shown.within in
      (shown.front ++ shown.q ∷ [], shown.reaches j follows_j (stayed_less inv.left j r (suc (length shown.front)) (omega arith) stayed))

  -- a chain of fewer than r names has been shown to j, with its holder's name in it
  short_chain : (p : ℕ) (names : List ℕ) → Follows g p → s.taken p m names ≡ true → length names < r → Reached s j m
  short_chain p names follows here short =
      ⊎_elim
      (λ in_it.
      let all : take (length names) names ≡ names = take_all (length names) names (omega arith) in
      reached_through p p (length names) names (omega arith) follows here follows (subst (λ l. has p l ≡ true) (sym all) in_it))
      (λ out.
      let passed = inv.passed_on p m names follows here out (omega arith) in
      (names ++ p ∷ [], (inv.delivered p m names follows passed).all j follows_j (stayed_less inv.left j r (suc (length names)) short stayed)))
      (cases_Bool (has p names))

  -- a sound switch that stands in the first r names of a held chain, or backs the order, has shown a chain to j
  shown_by : (p q : ℕ) (names : List ℕ) (S : ℕ → Bool) → 2 ≤ r → Follows g p → s.taken p m names ≡ true → Seconds (s.taken p m) S → q < g.n → g.sound q ≡ true → (has q (take r names) || S q) ≡ true → Reached s j m
  shown_by p q names S two follows here seconds low sound on =
      ⊎_elim
      (λ leads.
      let sound_lead = subst (λ k. g.sound k ≡ true) leads sound in
      let same = one_order g fair s inv sound_lead p m names follows here in
      (g.lead ∷ [], subst (λ k. s.taken j k (g.lead ∷ []) ≡ true) (sym same) (first_chain g fair s inv sound_lead (omega arith) j follows_j)))
      (λ other.
      ⊎_elim
      (λ in_it. reached_through p q r names (omega arith) follows here (low, sound, other) in_it)
      (λ backs.
      let by = seconds.only q backs in
      reached_through p q 2 (by.0 ∷ q ∷ by.1) two follows by.2 (low, sound, other) (or_right _ _ (or_left _ _ (eq-eqb q q refl))))
      (or_cases (has q (take r names)) (S q) on))
      (cases_eq q g.lead)

-- of a chain that bears enough for round r
module _ (g : Ring) (fair : Fair g) (s : State) (inv : Invariant g s) (p m r : ℕ) (S : ℕ → Bool) (follows : Follows g p) (two : 2 ≤ r) (few : r ≤ g.t + 1) (seconds : Seconds (s.taken p m) S) (borne : Borne g.n g.t (s.taken p m) S (g.t + 3 - r)) where
  -- the names of S that it does not hide
  abbrev backs : ℕ → Bool
  backs q = S q && not (has q (hidden g.t (g.t + 3 - r) borne.names))

  -- none of them stands in its first r names: those after the lead are hidden, and the lead is not in S
  counted_once : (q : ℕ) → has q (take r borne.names) ≡ true → backs q ≡ false
  counted_once q in_it = ⊎_elim (λ on. absurd (twice on)) (λ off. off) (cases_Bool (backs q))
    where
      twice : backs q ≡ true → ⊥
      twice on =
          let a = and_parts (S q) (not (has q (hidden g.t (g.t + 3 - r) borne.names))) on in
          let by = seconds.only q a.0 in
          let second = second_name g fair s inv p m by.0 q by.1 follows by.2 in
          let proper = (inv.held p m borne.names follows borne.here).proper in
          let split = first_names g.lead r borne.names proper.others (omega arith) proper.split in
          let as_hidden : r - 1 ≡ g.t + 2 - (g.t + 3 - r) = omega arith in
          ⊎_elim
          (λ leads. second.2 (eqb-true q g.lead leads))
          (λ later. both_ways _ (not-true _ a.1) (subst (λ k. has q (take k (drop 1 borne.names)) ≡ true) as_hidden later))
          (or_cases (eqb q g.lead) (has q (take (r - 1) (drop 1 borne.names))) (subst (λ l. has q l ≡ true) split in_it))

  -- with r or more names: the first r of them and those of S that it does not hide are more than t, so one of them is sound
  more_than_t : r ≤ length borne.names → g.t < tally (λ q. has q (take r borne.names) || S q) g.n
  more_than_t long =
      let proper = (inv.held p m borne.names follows borne.here).proper in
      let first = take r borne.names in
      let once = each_once first g.n (distinct-take r borne.names proper.apart) (below-take g.n r borne.names proper.within) in
      let many = length-take-le r borne.names long in
      let others : g.t + 3 - r ≤ 2 + tally backs g.n = borne.bears in
      let both = tally_apart (λ q. has q first) backs g.n (λ q _ in_it. counted_once q in_it) in
      let all = tally_grows (λ q. has q first || backs q) (λ q. has q first || S q) g.n (λ q _ on. ⊎_elim (λ in_it. or_left _ _ in_it) (λ unhidden. or_right _ _ (and_parts (S q) (not (has q (hidden g.t (g.t + 3 - r) borne.names))) unhidden).0) (or_cases (has q first) (backs q) on)) in
      omega arith

  sound_one : r ≤ length borne.names → Both (λ q. has q (take r borne.names) || S q) g.sound g.n
  sound_one long =
      let more = more_than_t long in
      let faults = fair.faults in
      crowd (λ q. has q (take r borne.names) || S q) g.sound g.n (omega arith)

module _ (g : Ring) (fair : Fair g) (s : State) (inv : Invariant g s) where
  pub conspicuous : (p j m r : ℕ) (S : ℕ → Bool) → Follows g p → Follows g j → 2 ≤ r → r ≤ g.t + 1 → r ≤ current s → Stayed inv.left j r → Seconds (s.taken p m) S → Borne g.n g.t (s.taken p m) S (g.t + 3 - r) → (names : List ℕ) × (s.taken j m names ≡ true)
  conspicuous p j m r S follows_p follows_j two few now stayed seconds borne =
      ⊎_elim
      (λ short. short_chain g fair s inv j m r follows_j now stayed p borne.names follows_p borne.here short)
      (λ long.
      let one = sound_one g fair s inv p m r S follows_p two few seconds borne long in
      shown_by g fair s inv j m r follows_j now stayed p one.one borne.names S two follows_p borne.here seconds one.low one.second one.first)
      (cases_lt (length borne.names) r)
