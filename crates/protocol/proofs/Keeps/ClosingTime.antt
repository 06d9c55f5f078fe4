-- Under a sound lead no follower waits once the quoted round is closed: at that close its chains weigh enough. Assumes nothing.
use Rattle.std.proofs.Common.{◌≡◌, ℕ, suc, ◌+◌, ◌<◌, ◌≤◌, true, [], ◌∷◌, ap, inl, ⊎_elim, arith}
use Rattle.std.proofs.lemmas.Bool.{cases_lt}
use Rattle.setting.specs.Quotes.{round}
use Rattle.protocol.specs.declared.standings.Standing.{Standing}
use Rattle.protocol.specs.Promises.{sound_count}
use Rattle.protocol.specs.Rings.{Ring, Fair, Follows}
use Rattle.protocol.specs.Rounds.{Sole, Weighs, Closes, led, ends, done, quit, early, waits, quits, picks, Closed}
use Rattle.protocol.specs.States.{State}
use Rattle.protocol.proofs.Invariant.{Stayed, current, Invariant}
use Rattle.protocol.proofs.Same.{kind}
use Rattle.protocol.proofs.Keeps.Leaving.{left_after, waits_after, stayed_before}
use Rattle.protocol.proofs.Keeps.Stands.{sound_follower, current_listens}
use Rattle.protocol.proofs.Shown.SoundLead.{one_order, first_chain, backed_by_all}

-- of a switch that waits after a close, a sole order weighs too little
module _ (g : Ring) (s : State) (r p : ℕ) (before after : Standing) where
  light_if_waits : kind after ≡ 1 → Closes g s r p before after → (m : ℕ) → Sole s p m → (w : ℕ) × Weighs g s p m w × (w + r < g.t + 3)
  light_if_waits waiting (led m b) = let k = ap kind b.1 in absurd (omega arith)
  light_if_waits waiting (ends m b) = let k = ap kind b.1 in absurd (omega arith)
  light_if_waits waiting (done m b) = let k = ap kind b.1 in absurd (omega arith)
  light_if_waits waiting (quit b) = let k = ap kind b.1 in absurd (omega arith)
  light_if_waits waiting (early m w b soon sole weighs enough) = let k = ap kind b.1 in absurd (omega arith)
  light_if_waits waiting (waits b soon light) = light
  light_if_waits waiting (quits b at_last none) = let k = ap kind b.1 in absurd (omega arith)
  light_if_waits waiting (picks w h b at_last weighs heaviest) = let k = ap kind b.1 in absurd (omega arith)

module _ (g : Ring) (fair : Fair g) (s s' : State) (inv : Invariant g s) (e : Closed g s s') (sound : g.sound g.lead ≡ true) (p : ℕ) (follows : Follows g p) where
  now : current s ≡ suc s.closed
  now = current_listens s e.listens

  -- the order of the lead is the only one
  lead_sole : Sole s p g.order
  lead_sole =
      let listened = now in
      record {
        names = g.lead ∷ [];
        one = first_chain g fair s inv sound (omega arith) p follows;
        only = λ m names here. one_order g fair s inv sound p m names follows here;
      }

  -- and from round 2 on it weighs as much as there are sound switches
  weighs_all : (w : ℕ) → 2 ≤ current s → Stayed inv.left p 2 → Weighs g s p g.order w → sound_count g ≤ w
  weighs_all w two stayed weighs = weighs.most (sound_count g) (backed_by_all g fair s inv sound two p weighs.S follows stayed weighs.seconds)

  pub in_time_after : left_after s s' inv.left p ≡ 0 → s'.closed < round g.t (sound_count g)
  in_time_after none =
      let listened = now in
      let more = e.one_more in
      let waiting = waits_after s s' inv.left p none in
      let light = light_if_waits g s (suc s.closed) p (s.standing p) (s'.standing p) waiting (e.standing p (sound_follower g p follows)) g.order lead_sole in
      let little = light.2 in
      ⊎_elim
      (λ soon. soon)
      (λ late.
      let most = weighs_all light.0 (omega arith) (stayed_before g s s' inv e p follows 2 (inl none)) light.1 in
      absurd (omega arith))
      (cases_lt s'.closed (round g.t (sound_count g)))
