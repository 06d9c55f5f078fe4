use Rattle.std.proofs.Common.{◌≡◌, ℕ, ◌<◌, get_or}
use Rattle.order.proofs.rankings.Ranked.new.Given as goal

abbrev pub invariant-loop-code : goal.invariant-loop-code
invariant-loop-code l = (c : ℕ) → c < l.code → get_or l.list (get_or l.rank-items c 0) 0 ≡ c
