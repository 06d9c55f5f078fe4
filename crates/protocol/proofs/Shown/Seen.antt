-- In the last round every held chain is seen by everyone who still waits, under a faulty lead: a front of it, or the whole
-- with one name more. Assumes nothing.
--   Seen      what j holds of a chain that i holds
--   front     a front of two or more names, up to a sound name
--   further   the chain as i passed it on
use Rattle.std.proofs.Common.{◌≡◌, ℕ, suc, ◌+◌, ◌<◌, ◌≤◌, true, false, List, [], ◌∷◌, ◌++◌, length, sym, ◌∙◌, subst, ⊎_elim, arith}
use Rattle.std.proofs.lemmas.List.{append_assoc, take_all}
use Rattle.std.proofs.lemmas.Bool.{both_ways, cases_Bool, cases_lt}
use Rattle.counting.specs.Lists.{has}
use Rattle.counting.proofs.Crowds.{crowd}
use Rattle.counting.proofs.Splits.{length_push}
use Rattle.counting.proofs.Tallies.{each_once}
use Rattle.protocol.specs.Rings.{Ring, Fair, Follows}
use Rattle.protocol.specs.States.{State}
use Rattle.protocol.proofs.Invariant.{Invariant, Stayed, current}
use Rattle.protocol.proofs.Shown.Through.{stayed_less, through}

pub data Seen (s : State) (i j m : ℕ) (names : List ℕ) : Type 0 where
  front : (shown rest : List ℕ) → names ≡ shown ++ rest → 2 ≤ length shown → s.taken j m shown ≡ true → Seen s i j m names
  further : s.taken j m (names ++ i ∷ []) ≡ true → Seen s i j m names

module _ (g : Ring) (fair : Fair g) (s : State) (inv : Invariant g s) (faulty : g.sound g.lead ≡ false) (last : g.t + 1 ≤ current s) (i j m : ℕ) (follows_i : Follows g i) (follows_j : Follows g j) (stayed : Stayed inv.left j (g.t + 1)) (names : List ℕ) (here : s.taken i m names ≡ true) where
  -- a follower stands in the chain
  seen_front : (q : ℕ) → Follows g q → has q names ≡ true → Seen s i j m names
  seen_front q follows in_it =
      let short = (inv.held i m names follows_i here).proper.short in
      let found = through g fair s inv i m q (length names) names follows_i here follows (subst (λ l. has q l ≡ true) (sym (take_all (length names) names (omega arith))) in_it) in
      let some = found.some in
      let within = found.within in
      let long = length_push found.front found.q in
      front
      (found.front ++ found.q ∷ [])
      found.rest
      (found.whole ∙ sym (append_assoc found.front (found.q ∷ []) found.rest))
      (omega arith)
      (found.reaches j follows_j (stayed_less inv.left j (g.t + 1) (suc (length found.front)) (omega arith) stayed))

  -- a chain of at most t names is passed on in time
  seen_further : length names ≤ g.t → has i names ≡ false → Seen s i j m names
  seen_further few out =
      let signed = inv.passed_on i m names follows_i here out (omega arith) in
      further ((inv.delivered i m names follows_i signed).all j follows_j (stayed_less inv.left j (g.t + 1) (suc (length names)) (omega arith) stayed))

  -- a sound name is a follower: the lead is not sound
  sound_follows : (q : ℕ) → q < g.n → g.sound q ≡ true → Follows g q
  sound_follows q low sound = (low, sound, λ e. both_ways (g.sound g.lead) faulty (subst (λ p. g.sound p ≡ true) e sound))

  -- more than t different names are not all faulty
  seen_long : g.t < length names → Seen s i j m names
  seen_long many =
      let proper = (inv.held i m names follows_i here).proper in
      let all = each_once names g.n proper.apart proper.within in
      let faults = fair.faults in
      let found = crowd (λ p. has p names) g.sound g.n (omega arith) in
      seen_front found.one (sound_follows found.one found.low found.second) found.first

  pub seen : Seen s i j m names
  seen =
      ⊎_elim
      (λ in_it. seen_front i follows_i in_it)
      (λ out. ⊎_elim seen_long (λ few. seen_further few out) (cases_lt g.t (length names)))
      (cases_Bool (has i names))
