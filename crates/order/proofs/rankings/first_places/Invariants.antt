use Rattle.order.proofs.Places.{Tabled}
use Rattle.order.proofs.rankings.first_places.Given as goal

abbrev pub invariant-loop-place : goal.invariant-loop-place
invariant-loop-place l = Tabled l.list l.ranks l.place
