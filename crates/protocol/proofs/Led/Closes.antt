-- The three closes of the run under a sound lead: at the first the lead carries out its order, at the second the others do,
-- at the third all are done. Assumes nothing.
use Rattle.std.proofs.Common.{◌≡◌, ℕ, true, false, not, eqb, List, [], ◌∷◌, length, refl, ap, ⊎_elim, arith}
use Rattle.std.proofs.lemmas.Bool.{cases_Bool, and_from, cond-true, cond-false, not_from_false, or_right}
use Rattle.protocol.specs.declared.standings.Standing.TheVariants.{Leading, Waiting, Carry, Done}
use Rattle.protocol.specs.LedRing.{ring, backed, first_sent, first_closed, second_sent, second_closed, third_sent, ended}
use Rattle.protocol.specs.Rounds.{Weighs, Sole, Closes, Closed, led, ends, done, early, waits}
use Rattle.protocol.proofs.Led.Tests.{holds_lead, holds_three}
use Rattle.protocol.proofs.Led.Weights.{weighs_four}
use Rattle.protocol.proofs.Worked.Weights.{weighs_nothing}

-- in round 1 every chain that is held has one name
early_weight : (p m : ℕ) → Weighs ring first_sent p m 0
early_weight p m =
    weighs_nothing 3 2 (first_sent.taken p m) (λ names here.
    let short = ap length (holds_lead p m names here).2 in
    omega arith)

pub first_close : Closed ring first_sent first_closed
first_close = record { listens = refl; rests = refl; one_more = refl; takes = λ p m names _. refl; signs = λ m names. refl; standing = λ p _. standing p }
  where
    standing : (p : ℕ) → Closes ring first_sent 1 p (first_sent.standing p) (first_closed.standing p)
    standing p =
        ⊎_elim
        (λ lead. led 1 (cond-true (eqb p 0) (Leading 1) Waiting lead, cond-true (eqb p 0) (Carry 1) Waiting lead))
        (λ other. waits (cond-false (eqb p 0) (Leading 1) Waiting other, cond-false (eqb p 0) (Carry 1) Waiting other) (omega arith) (λ m _. (0, early_weight p m, omega arith)))
        (cases_Bool (eqb p 0))

-- after round 2 a switch other than the lead holds what both have passed on
holds_backed : (p : ℕ) (names : List ℕ) → eqb p 0 ≡ false → backed 1 names ≡ true → second_sent.taken p 1 names ≡ true
holds_backed p names other on = or_right (first_closed.taken p 1 names) _ (and_from (not (eqb p 0)) (backed 1 names) (not_from_false (eqb p 0) other) on)

backed_weight : (p : ℕ) → eqb p 0 ≡ false → Weighs ring second_sent p 1 4
backed_weight p other = weighs_four (second_sent.taken p 1) (holds_backed p (0 ∷ 1 ∷ []) other refl) (holds_backed p (0 ∷ 2 ∷ []) other refl) (λ names here. (holds_three p 1 names here).2)

sole : (p : ℕ) → eqb p 0 ≡ false → Sole second_sent p 1
sole p other = record { names = 0 ∷ 1 ∷ []; one = holds_backed p (0 ∷ 1 ∷ []) other refl; only = λ m names here. (holds_three p m names here).1 }

pub second_close : Closed ring second_sent second_closed
second_close = record { listens = refl; rests = refl; one_more = refl; takes = λ p m names _. refl; signs = λ m names. refl; standing = λ p _. standing p }
  where
    standing : (p : ℕ) → Closes ring second_sent 2 p (second_sent.standing p) (second_closed.standing p)
    standing p =
        ⊎_elim
        (λ lead. ends 1 (cond-true (eqb p 0) (Carry 1) Waiting lead, cond-true (eqb p 0) (Done 1) (Carry 1) lead))
        (λ other. early 1 4 (cond-false (eqb p 0) (Carry 1) Waiting other, cond-false (eqb p 0) (Done 1) (Carry 1) other) (omega arith) (sole p other) (backed_weight p other) (omega arith))
        (cases_Bool (eqb p 0))

pub third_close : Closed ring third_sent ended
third_close = record { listens = refl; rests = refl; one_more = refl; takes = λ p m names _. refl; signs = λ m names. refl; standing = λ p _. standing p }
  where
    standing : (p : ℕ) → Closes ring third_sent 3 p (third_sent.standing p) (ended.standing p)
    standing p =
        ⊎_elim
        (λ lead. done 1 (cond-true (eqb p 0) (Done 1) (Carry 1) lead, refl))
        (λ other. ends 1 (cond-false (eqb p 0) (Done 1) (Carry 1) other, refl))
        (cases_Bool (eqb p 0))
