-- One run of a ring of three switches, worked to its end. Assumes nothing.
--   Steps       each call of the run keeps to the rules, from one state to the next
--   calls       the seven calls in their order
--   WorkedRun   the ring is fair, the calls are a run of it, and at its end both sound switches carry out order 1, which the
--               lead has signed
use Rattle.std.specs.Prelude.{◌≡◌, [], ◌∷◌}
use Rattle.protocol.specs.declared.standings.Standing.TheVariants.{Carry}
use Rattle.protocol.specs.Rings.{Fair}
use Rattle.protocol.specs.Rounds.{Opened, Sent, Signed, Laid, Closed, refused, sent, signed, laid, closed}
use Rattle.protocol.specs.Runs.{Calls, none, one_more, LeadSigned}
use Rattle.protocol.specs.WorkedRing.{ring, opened, first_sent, lead_signed, one_told, first_closed, second_sent, ended}

pub record Steps : Type 0 where
  -- round 1: nothing is passed on; the lead signs order 1, and its chain is laid to switch 1 alone
  pub first_send : Sent ring opened first_sent
  pub sign : Signed ring first_sent lead_signed 1 (0 ∷ [])
  pub lay : Laid ring lead_signed one_told 1 1 (0 ∷ [])
  -- a call that is refused changes nothing
  pub refusal : one_told ≡ one_told
  pub first_close : Closed ring one_told first_closed
  -- round 2: switch 1 passes the chain on with its name, and each switch picks the heaviest order
  pub second_send : Sent ring first_closed second_sent
  pub second_close : Closed ring second_sent ended

abbrev pub calls : Steps → Calls ring opened ended
calls steps =
    let one = one_more none (sent steps.first_send) in
    let two = one_more one (signed 1 (0 ∷ []) steps.sign) in
    let three = one_more two (laid 1 1 (0 ∷ []) steps.lay) in
    let four = one_more three (refused steps.refusal) in
    let five = one_more four (closed steps.first_close) in
    let six = one_more five (sent steps.second_send) in
    one_more six (closed steps.second_close)

pub record WorkedRun : Type 0 where
  pub fair : Fair ring
  pub opens : Opened ring opened
  pub steps : Steps
  pub signed : LeadSigned ring (calls steps) 1
  pub rounds : ended.closed ≡ 2
  pub one_carries : ended.standing 1 ≡ Carry 1
  pub two_carries : ended.standing 2 ≡ Carry 1
