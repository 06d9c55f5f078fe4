-- What open makes has the invariant: nothing is taken, nothing is signed, and every follower waits. Assumes nothing.
use Rattle.std.proofs.Common.{refl, arith}
use Rattle.std.proofs.lemmas.Bool.{both_ways}
use Rattle.protocol.specs.Rings.{Ring, Fair}
use Rattle.protocol.specs.Rounds.{Opened}
use Rattle.protocol.specs.States.{State}
use Rattle.protocol.proofs.Invariant.{Invariant, waits, leading}
use Rattle.protocol.proofs.Keeps.Stands.{current_rests, sound_follower}

pub open_makes : (g : Ring) → Fair g → (s : State) → Opened g s → Invariant g s
open_makes g fair s o =
    let none = o.closed in
    let now = current_rests s o.rests in
    record {
      left = λ p. 0;
      held = λ p m names follows here. absurd (both_ways _ (o.nothing_taken p m names (sound_follower g p follows)) here);
      passed_on = λ p m names follows here new short. absurd (both_ways _ (o.nothing_taken p m names (sound_follower g p follows)) here);
      delivered = λ q m front follows here. absurd (both_ways _ (o.nothing_signed m _) here);
      ledger = λ m names here. absurd (both_ways _ (o.nothing_signed m names) here);
      stands = λ p follows. waits (o.waits p (sound_follower g p follows) follows.2) refl (omega arith);
      few_rounds = omega arith;
      room = λ on. omega arith;
      led = λ sound m here. absurd (both_ways _ (o.nothing_signed m _) here);
      begun = λ sound some. absurd (omega arith);
      lead_stands = λ sound. leading none (o.leads sound);
      idle = λ sound m names here. both_ways _ (o.nothing_taken g.lead m names (fair.leads, sound)) here;
      in_time = λ sound p follows zero_left. omega arith;
    }
