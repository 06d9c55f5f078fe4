use Rattle.counting.proofs.Crowds.{tally_grows, tally_apart, tally_without, crowd}
use Rattle.counting.proofs.Tallies.{each_once, at_most, room, full_distinct}
use Rattle.counting.proofs.laws_hold.Goals as goal

pub returns : goal.returns
returns c =
    record {
      each_once = each_once;
      at_most = at_most;
      room = room;
      none_twice = full_distinct;
      wider = tally_grows;
      apart = tally_apart;
      without = tally_without;
      crowd = λ f g n more. let both = crowd f g n more in (both.one, both.low, both.first, both.second);
    }
