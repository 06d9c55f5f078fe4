-- At the end, under a faulty lead, no switch that waited for it weighs less than another. Assumes nothing.
use Rattle.std.proofs.Common.{◌≡◌, ℕ, ◌+◌, ◌≤◌, Bool, true, false, sym, subst, inr, ⊎_elim, arith}
use mathlib.Core.Path.{fun_ext}
use Rattle.std.proofs.lemmas.Bool.{both_ways}
use Rattle.protocol.specs.Rings.{Ring, Fair, Sound, Follows}
use Rattle.protocol.specs.Rounds.{Weighs, Heaviest}
use Rattle.protocol.specs.States.{State}
use Rattle.protocol.proofs.Invariant.{Invariant}
use Rattle.protocol.proofs.Same.{same_test}
use Rattle.protocol.proofs.Parts.Decided.{closed_current}
use Rattle.protocol.proofs.Shown.Visible.{weights_visible}

-- the same weights have the same heaviest orders
pub heaviest_same : (w w' : ℕ → ℕ) (h h' : ℕ → Bool) → ((m : ℕ) → w m ≡ w' m) → Heaviest w h → Heaviest w' h' → h ≡ h'
heaviest_same w w' h h' same a b = fun_ext (λ m. same_test (h m) (h' m) (over w w' h h' same a b m) (over w' w h' h (λ x. sym (same x)) b a m))
  where
    over : (w w' : ℕ → ℕ) (h h' : ℕ → Bool) → ((m : ℕ) → w m ≡ w' m) → Heaviest w h → Heaviest w' h' → (m : ℕ) → h m ≡ true → h' m ≡ true
    over w w' h h' same a b m on =
        let one = b.one in
        let here = same m in
        let there = same one in
        let up = a.each m one on in
        let down = b.each one m b.in_it in
        b.all m (omega arith)

-- where the lead is faulty, every sound switch follows
pub all_follow : (g : Ring) → g.sound g.lead ≡ false → (p : ℕ) → Sound g p → Follows g p
all_follow g faulty p sound = (sound.0, sound.1, λ lead. both_ways (g.sound g.lead) faulty (subst (λ q. g.sound q ≡ true) lead sound.1))

module _ (g : Ring) (fair : Fair g) (s : State) (inv : Invariant g s) (faulty : g.sound g.lead ≡ false) where
  -- what one that decides at the end weighs is no less than what any other weighs
  pub no_lighter : g.t + 1 ≤ s.closed → (i j m w v : ℕ) → Follows g i → Follows g j → inv.left j ≡ g.t + 1 → Weighs g s i m w → Weighs g s j m v → w ≤ v
  no_lighter end i j m w v follows_i follows_j left weighs_i weighs_j =
      let now = closed_current s in
      ⊎_elim
      (λ none. let e = none.0 in omega arith)
      (λ borne. weighs_j.most w (weights_visible g fair s inv faulty (omega arith) i j m w weighs_i.S weighs_j.S follows_i follows_j (inr (omega arith)) weighs_i.seconds weighs_j.seconds borne))
      weighs_i.reached
