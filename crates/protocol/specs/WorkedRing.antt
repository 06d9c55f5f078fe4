-- A ring of three switches, and the states of one short run of it. Assumes nothing.
--   ring           three switches, one fault tolerated; the lead, 0, is faulty, 1 and 2 are sound; the orders are 0 and 1,
--                  and of several the lower one is taken
--   lead_alone     the chain of order 1 with the name 0
--   lead_and_one   the chain of order 1 with the names 0 and 1
--   opened         nothing is taken, nothing is signed, and the sound switches wait
--   first_sent     round 1: a send has been made, and has passed nothing on, for the lead is faulty
--   lead_signed    the lead has signed order 1 with its name alone
--   one_told       switch 1 has been handed that chain, and switch 2 nothing
--   first_closed   round 1 is closed: a chain of one name weighs nothing, so both wait
--   second_sent    round 2: switch 1 has passed the chain on with its name, and both hold what it signed
--   ended          round 2, the last, is closed: order 1 weighs 3 at both, the other order nothing, so both carry it out
-- Each state has from the one before it what the call between them leaves. No rule reads what is said of switch 0 here,
-- its standing and what it holds, for it is faulty.
use Rattle.std.specs.Prelude.{ℕ, Bool, true, false, if◌then◌else◌, not, ◌&&◌, ◌||◌, List, [], ◌∷◌, ◌==◌}
use Rattle.counting.specs.Lists.{alike}
use Rattle.protocol.specs.declared.standings.Standing.TheVariants.{Waiting, Carry}
use Rattle.protocol.specs.Rings.{Ring}
use Rattle.protocol.specs.States.{State}

abbrev pub ring : Ring
ring = record { n = 3; t = 1; lead = 0; codes = 2; sound = λ p. not (p == 0); order = 0; pick = λ set. if set 0 then 0 else 1 }

abbrev pub lead_alone : ℕ → List ℕ → Bool
lead_alone m names = m == 1 && alike names (0 ∷ [])

abbrev pub lead_and_one : ℕ → List ℕ → Bool
lead_and_one m names = m == 1 && alike names (0 ∷ 1 ∷ [])

abbrev pub opened : State
opened = record { closed = 0; listening = false; standing = λ p. Waiting; taken = λ p m names. false; signed = λ m names. false }

abbrev pub first_sent : State
first_sent = record { closed = 0; listening = true; standing = opened.standing; taken = opened.taken; signed = opened.signed }

abbrev pub lead_signed : State
lead_signed = record { closed = 0; listening = true; standing = first_sent.standing; taken = first_sent.taken; signed = lead_alone }

abbrev pub one_told : State
one_told = record { closed = 0; listening = true; standing = lead_signed.standing; taken = λ p m names. (p == 1) && lead_alone m names; signed = lead_signed.signed }

abbrev pub first_closed : State
first_closed = record { closed = 1; listening = false; standing = λ p. Waiting; taken = one_told.taken; signed = one_told.signed }

abbrev pub second_sent : State
second_sent = record { closed = 1; listening = true; standing = first_closed.standing; taken = λ p m names. first_closed.taken p m names || lead_and_one m names; signed = λ m names. first_closed.signed m names || lead_and_one m names }

abbrev pub ended : State
ended = record { closed = 2; listening = false; standing = λ p. Carry 1; taken = second_sent.taken; signed = second_sent.signed }
