-- What a close makes of a standing that is not waiting. Assumes nothing.
--   next      the standing after it
--   goes_on   a close makes that of it
use Rattle.std.proofs.Common.{◌≡◌, ℕ, ◌≢◌, sym, refl, ap, ◌∙◌, arith}
use Rattle.protocol.specs.declared.standings.Standing.{Standing}
use Rattle.protocol.specs.declared.standings.Standing.TheVariants.{Leading, Waiting, Carry, Done, Quit}
use Rattle.protocol.specs.Rings.{Ring}
use Rattle.protocol.specs.Rounds.{Closes, led, ends, done, quit, early, waits, quits, picks}
use Rattle.protocol.specs.States.{State}
use Rattle.protocol.proofs.Same.{kind}

abbrev pub next : Standing → Standing
next (Leading m) = Carry m
next Waiting = Waiting
next (Carry m) = Done m
next (Done m) = Done m
next Quit = Quit

-- only waiting is of its kind
pub waiting_kind : (standing : Standing) → kind standing ≡ 1 → standing ≡ Waiting
waiting_kind (Leading m) same = absurd (omega arith)
waiting_kind Waiting same = refl
waiting_kind (Carry m) same = absurd (omega arith)
waiting_kind (Done m) same = absurd (omega arith)
waiting_kind Quit same = absurd (omega arith)

-- only a waiting switch waits next
pub next_acts : (standing : Standing) → kind standing ≢ 1 → kind (next standing) ≢ 1
next_acts (Leading m) out = omega arith
next_acts Waiting out = absurd (out refl)
next_acts (Carry m) out = omega arith
next_acts (Done m) out = omega arith
next_acts Quit out = omega arith

module _ (g : Ring) (s : State) (r p : ℕ) (before after : Standing) where
  -- a move from the old standing to its next one
  moved : (old new : Standing) → before ≡ old → after ≡ new → next old ≡ new → after ≡ next before
  moved old new from_old to_new step = to_new ∙ sym step ∙ ap next (sym from_old)

  pub goes_on : Closes g s r p before after → kind before ≢ 1 → after ≡ next before
  goes_on (led m b) out = moved (Leading m) (Carry m) b.0 b.1 refl
  goes_on (ends m b) out = moved (Carry m) (Done m) b.0 b.1 refl
  goes_on (done m b) out = moved (Done m) (Done m) b.0 b.1 refl
  goes_on (quit b) out = moved Quit Quit b.0 b.1 refl
  goes_on (early m w b soon sole weighs enough) out = absurd (out (ap kind b.0))
  goes_on (waits b soon light) out = absurd (out (ap kind b.0))
  goes_on (quits b at_last none) out = absurd (out (ap kind b.0))
  goes_on (picks w h b at_last weighs heaviest) out = absurd (out (ap kind b.0))

  -- a switch that does not wait does not come to wait
  pub stays_out : Closes g s r p before after → kind before ≢ 1 → kind after ≢ 1
  stays_out c out =
      let step = ap kind (goes_on c out) in
      let acts = next_acts before out in
      omega arith
