-- How a follower came to the order that it has carried out, and that its chains weigh something. Assumes nothing.
--   Decided   before the last round, m was its only order and weighed enough; at the end, m was picked from the heaviest
use Rattle.std.proofs.Common.{◌≡◌, ℕ, suc, ◌+◌, ◌<◌, ◌≤◌, Bool, true, ◌⊎◌, List, sym, ap, subst, inl, inr, ⊎_elim, arith}
use Rattle.std.proofs.lemmas.Bool.{cases_Bool, cond-true, cond-false}
use Rattle.weight.specs.Weights.{Weight, Borne}
use Rattle.weight.proofs.Smaller.{smaller}
use Rattle.protocol.specs.declared.standings.Standing.TheVariants.{Carry, Done}
use Rattle.protocol.specs.Rings.{Ring, Fair, Follows}
use Rattle.protocol.specs.Rounds.{Sole, Weighs, Heaviest}
use Rattle.protocol.specs.States.{State, Carried}
use Rattle.protocol.proofs.Invariant.{Invariant, Stands, waits, early, last, quit, current}
use Rattle.protocol.proofs.Same.{kind}
use Rattle.protocol.proofs.Parts.CarriedOrders.{carried_kind, same_order}

pub data Decided (g : Ring) (s : State) (left : ℕ → ℕ) (p m : ℕ) : Type 0 where
  ahead : (w : ℕ) → 1 ≤ left p → left p ≤ g.t → left p ≤ s.closed → Sole s p m → Weighs g s p m w → g.t + 3 ≤ w + left p → Decided g s left p m
  at_end : (w : ℕ → ℕ) (h : ℕ → Bool) → m ≡ g.pick h → h m ≡ true → left p ≡ g.t + 1 → s.closed ≡ g.t + 1 → ((m' : ℕ) → Weighs g s p m' (w m')) → Heaviest w h → Decided g s left p m

-- a weight above 0 is borne by some chain
pub weighty : (n t : ℕ) (held : List ℕ → Bool) (w : ℕ) (weight : Weight n t held w) → 0 < w → Borne n t held weight.S w
weighty n t held w weight some = ⊎_elim (λ none. let e = none.0 in absurd (omega arith)) (λ borne. borne) weight.reached

-- a chain bears every smaller weight
pub lighter : (n t : ℕ) (held : List ℕ → Bool) (S : ℕ → Bool) (w v : ℕ) → v ≤ w → Borne n t held S w → Borne n t held S v
lighter n t held S w v less borne = record { names = borne.names; here = borne.here; long = borne.long; bears = smaller n t S borne.names w v less borne.bears }

pub closed_current : (s : State) → s.closed ≤ current s
closed_current s =
    ⊎_elim
    (λ on. let e = cond-true s.listening (suc s.closed) s.closed on in omega arith)
    (λ off. let e = cond-false s.listening (suc s.closed) s.closed off in omega arith)
    (cases_Bool s.listening)

-- a follower that carried out early is carrying out or done
pub early_carried : (s : State) (p m : ℕ) (A B : Type 0) → ((s.standing p ≡ Carry m) × A) ⊎ ((s.standing p ≡ Done m) × B) → Carried (s.standing p) m
early_carried s p m A B is = ⊎_elim (λ c. inl c.0) (λ d. inr d.0) is

module _ (g : Ring) (fair : Fair g) (s : State) (inv : Invariant g s) where
  -- what was picked is one of the heaviest
  pub picked : (p : ℕ) (w : ℕ → ℕ) (h : ℕ → Bool) → Follows g p → ((m : ℕ) → Weighs g s p m (w m)) → Heaviest w h → h (g.pick h) ≡ true
  picked p w h follows weighs heaviest =
      let one = heaviest.one in
      let borne = weighty g.n g.t (s.taken p one) (w one) (weighs one) heaviest.heavy in
      fair.member h one (inv.held p one borne.names follows borne.here).coded heaviest.in_it

  decided_from : (p m : ℕ) → Follows g p → Stands g s inv.left p → Carried (s.standing p) m → Decided g s inv.left p m
  decided_from p m follows (waits is stays few) carried = let k = ap kind is in let c = carried_kind (s.standing p) m carried in absurd (omega arith)
  decided_from p m follows (early m' w is some few sole weighs enough) carried =
      let same = same_order (s.standing p) m' m (early_carried s p m' _ _ is) carried in
      let before : inv.left p ≤ s.closed = ⊎_elim (λ c. let e = c.1 in omega arith) (λ d. let e = d.1 in omega arith) is in
      subst (Decided g s inv.left p) same (ahead w some few before sole weighs enough)
  decided_from p m follows (last w h is left end weighs heaviest) carried =
      let same = same_order (s.standing p) (g.pick h) m (inl is) carried in
      at_end w h (sym same) (subst (λ x. h x ≡ true) same (picked p w h follows weighs heaviest)) left end weighs heaviest
  decided_from p m follows (quit is left end weighs) carried = let k = ap kind is in let c = carried_kind (s.standing p) m carried in absurd (omega arith)

  pub decided : (p m : ℕ) → Follows g p → Carried (s.standing p) m → Decided g s inv.left p m
  decided p m follows carried = decided_from p m follows (inv.stands p follows) carried

  -- what was carried out weighs something
  decided_weighs : (p m : ℕ) → Decided g s inv.left p m → (w : ℕ) × Weighs g s p m w × (0 < w)
  decided_weighs p m (ahead w some few before sole weighs enough) = (w, weighs, omega arith)
  decided_weighs p m (at_end w h is in_it left end weighs heaviest) =
      let heavy = heaviest.heavy in
      let most = heaviest.each m heaviest.one in_it in
      (w m, weighs m, omega arith)

  pub carried_weighs : (p m : ℕ) → Follows g p → Carried (s.standing p) m → (w : ℕ) × Weighs g s p m w × (0 < w)
  carried_weighs p m follows carried = decided_weighs p m (decided p m follows carried)

  -- so a chain of it is held
  pub carried_held : (p m : ℕ) → Follows g p → Carried (s.standing p) m → (names : List ℕ) × (s.taken p m names ≡ true)
  carried_held p m follows carried =
      let heavy = carried_weighs p m follows carried in
      let borne = weighty g.n g.t (s.taken p m) heavy.0 heavy.1 heavy.2 in
      (borne.names, borne.here)
