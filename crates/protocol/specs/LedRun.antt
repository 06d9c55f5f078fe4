-- One run of a ring of three sound switches, worked to its end. Assumes nothing.
--   Steps    each call of the run keeps to the rules, from one state to the next
--   calls    the six calls in their order
--   LedRun   the ring is fair, the calls are a run of it, the quoted round is 2, and once it is closed all have carried out
--            order 1, which the lead has signed; at the end all are done with it
use Rattle.std.specs.Prelude.{◌≡◌}
use Rattle.setting.specs.Quotes.{round}
use Rattle.protocol.specs.declared.standings.Standing.TheVariants.{Carry, Done}
use Rattle.protocol.specs.LedRing.{ring, opened, first_sent, first_closed, second_sent, second_closed, third_sent, ended}
use Rattle.protocol.specs.Promises.{sound_count}
use Rattle.protocol.specs.Rings.{Fair}
use Rattle.protocol.specs.Rounds.{Opened, Sent, Closed, sent, closed}
use Rattle.protocol.specs.Runs.{Calls, none, one_more, LeadSigned}

pub record Steps : Type 0 where
  -- round 1: the lead signs its order, and carries it out at the close
  pub first_send : Sent ring opened first_sent
  pub first_close : Closed ring first_sent first_closed
  -- round 2: the others pass the chain on, and carry the order out at the close, before the last round
  pub second_send : Sent ring first_closed second_sent
  pub second_close : Closed ring second_sent second_closed
  -- round 3: they pass on what they hold, and then nobody takes part any more
  pub third_send : Sent ring second_closed third_sent
  pub third_close : Closed ring third_sent ended

abbrev pub calls : Steps → Calls ring opened ended
calls steps =
    let one = one_more none (sent steps.first_send) in
    let two = one_more one (closed steps.first_close) in
    let three = one_more two (sent steps.second_send) in
    let four = one_more three (closed steps.second_close) in
    let five = one_more four (sent steps.third_send) in
    one_more five (closed steps.third_close)

pub record LedRun : Type 0 where
  pub fair : Fair ring
  pub opens : Opened ring opened
  pub steps : Steps
  pub signed : LeadSigned ring (calls steps) 1
  -- all three are sound, so the quoted round is 2; once it is closed, all have carried out the order
  pub quoted : round ring.t (sound_count ring) ≡ 2
  pub two_rounds : second_closed.closed ≡ 2
  pub lead_has_carried : second_closed.standing 0 ≡ Done 1
  pub one_carries : second_closed.standing 1 ≡ Carry 1
  pub two_carries : second_closed.standing 2 ≡ Carry 1
  -- the end
  pub rounds : ended.closed ≡ 3
  pub lead_done : ended.standing 0 ≡ Done 1
  pub one_done : ended.standing 1 ≡ Done 1
  pub two_done : ended.standing 2 ≡ Done 1
