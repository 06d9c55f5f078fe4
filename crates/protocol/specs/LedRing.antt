-- A ring of three sound switches, and the states of one run of it under a sound lead. Assumes nothing.
--   ring            three switches, two faults tolerated, and none is faulty; the lead, 0, has the order 1 to give; the orders
--                   are 0 and 1, and of several the lower one is taken
--   chain           the chain of order 1 with the given names
--   backed          the chains 0 1 and 0 2 of order 1
--   crossed         the chains 0 1 2 and 0 2 1 of order 1
--   opened          nothing is taken, nothing is signed, the lead leads, and the others wait
--   first_sent      round 1: the lead has signed the chain 0, and the others hold it
--   first_closed    round 1 is closed: the lead carries out its order, and the others wait, for a chain of one name weighs
--                   nothing
--   second_sent     round 2: 1 and 2 have passed that chain on, each with its name, and both hold what they signed
--   second_closed   round 2 is closed: order 1 weighs 4 at 1 and 2, so they carry it out early, and the lead is done
--   third_sent      round 3: 1 and 2 have passed on the chain of the other; nobody waits, so nobody takes these
--   ended           round 3, the last, is closed: all are done
-- Each state has from the one before it what the call between them leaves. The lead holds nothing, for it never waits.
use Rattle.std.specs.Prelude.{ℕ, Bool, true, false, if◌then◌else◌, not, ◌&&◌, ◌||◌, List, [], ◌∷◌, ◌==◌}
use Rattle.counting.specs.Lists.{alike}
use Rattle.protocol.specs.declared.standings.Standing.TheVariants.{Leading, Waiting, Carry, Done}
use Rattle.protocol.specs.Rings.{Ring}
use Rattle.protocol.specs.States.{State}

abbrev pub ring : Ring
ring = record { n = 3; t = 2; lead = 0; codes = 2; sound = λ p. true; order = 1; pick = λ set. if set 0 then 0 else 1 }

abbrev pub chain : List ℕ → ℕ → List ℕ → Bool
chain whole m names = m == 1 && alike names whole

abbrev pub backed : ℕ → List ℕ → Bool
backed m names = chain (0 ∷ 1 ∷ []) m names || chain (0 ∷ 2 ∷ []) m names

abbrev pub crossed : ℕ → List ℕ → Bool
crossed m names = chain (0 ∷ 1 ∷ 2 ∷ []) m names || chain (0 ∷ 2 ∷ 1 ∷ []) m names

abbrev pub opened : State
opened = record { closed = 0; listening = false; standing = λ p. if p == 0 then Leading 1 else Waiting; taken = λ p m names. false; signed = λ m names. false }

abbrev pub first_sent : State
first_sent = record { closed = 0; listening = true; standing = opened.standing; taken = λ p m names. not (p == 0) && chain (0 ∷ []) m names; signed = chain (0 ∷ []) }

abbrev pub first_closed : State
first_closed = record { closed = 1; listening = false; standing = λ p. if p == 0 then Carry 1 else Waiting; taken = first_sent.taken; signed = first_sent.signed }

abbrev pub second_sent : State
second_sent = record { closed = 1; listening = true; standing = first_closed.standing; taken = λ p m names. first_closed.taken p m names || (not (p == 0) && backed m names); signed = λ m names. first_closed.signed m names || backed m names }

abbrev pub second_closed : State
second_closed = record { closed = 2; listening = false; standing = λ p. if p == 0 then Done 1 else Carry 1; taken = second_sent.taken; signed = second_sent.signed }

abbrev pub third_sent : State
third_sent = record { closed = 2; listening = true; standing = second_closed.standing; taken = second_closed.taken; signed = λ m names. second_closed.signed m names || crossed m names }

abbrev pub ended : State
ended = record { closed = 3; listening = false; standing = λ p. Done 1; taken = third_sent.taken; signed = third_sent.signed }
