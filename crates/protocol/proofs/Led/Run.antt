-- The run under a sound lead: its ring is fair, each of its calls keeps to the rules, and it ends as it says. Assumes nothing.
use Rattle.std.proofs.Common.{eqb, refl, inl, inr, arith}
use Rattle.std.proofs.lemmas.Bool.{cond-false, ne_eqb}
use Rattle.protocol.specs.declared.standings.Standing.TheVariants.{Leading, Waiting}
use Rattle.protocol.specs.LedRing.{ring, opened}
use Rattle.protocol.specs.LedRun.{Steps, LedRun}
use Rattle.protocol.specs.Rings.{Fair}
use Rattle.protocol.specs.Rounds.{Opened}
use Rattle.protocol.proofs.Led.Closes.{first_close, second_close, third_close}
use Rattle.protocol.proofs.Led.Sends.{first_send, second_send, third_send}
use Rattle.protocol.proofs.Worked.Run.{pick_member}

fair : Fair ring
fair = record { least = omega arith; leads = omega arith; faults = omega arith; coded = λ _. omega arith; member = pick_member }

opens : Opened ring opened
opens =
    record {
      closed = refl;
      rests = refl;
      nothing_taken = λ p m names _. refl;
      nothing_signed = λ m names. refl;
      leads = λ _. refl;
      waits = λ p _ other. cond-false (eqb p 0) (Leading 1) Waiting (ne_eqb p 0 other);
    }

steps : Steps
steps = record { first_send = first_send; first_close = first_close; second_send = second_send; second_close = second_close; third_send = third_send; third_close = third_close }

pub led_run : LedRun
unfolding steps
led_run =
    record {
      fair = fair;
      opens = opens;
      steps = steps;
      signed = inl (inl (inl (inl (inl (inr (refl, refl, refl))))));
      quoted = refl;
      two_rounds = refl;
      lead_has_carried = refl;
      one_carries = refl;
      two_carries = refl;
      rounds = refl;
      lead_done = refl;
      one_done = refl;
      two_done = refl;
    }
