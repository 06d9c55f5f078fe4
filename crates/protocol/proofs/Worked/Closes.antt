-- The two closes of the worked run: at the first both switches wait, at the second both pick order 1. Assumes nothing.
use Rattle.std.proofs.Common.{◌≡◌, ℕ, ◌≤◌, true, cond, eqb, length, sym, refl, ap, subst, ⊎_elim, arith}
use Rattle.std.proofs.lemmas.Bool.{cases_Bool, cond-true, cond-false, cond_both, eqb-true, eqb-false, or_right}
use Rattle.protocol.specs.Rounds.{Weighs, Heaviest, Closed, waits, picks}
use Rattle.protocol.specs.WorkedRing.{ring, one_told, first_closed, second_sent, ended}
use Rattle.protocol.proofs.Worked.Tests.{one_holds, holds_two}
use Rattle.protocol.proofs.Worked.Weights.{weighs_nothing, weighs_three}

-- in round 1 every chain that is held has one name
early_weight : (p m : ℕ) → Weighs ring one_told p m 0
early_weight p m =
    weighs_nothing 3 1 (one_told.taken p m) (λ names here.
    let short = ap length (one_holds p m names here).2 in
    omega arith)

pub first_close : Closed ring one_told first_closed
first_close =
    record {
      listens = refl;
      rests = refl;
      one_more = refl;
      takes = λ p m names _. refl;
      signs = λ m names. refl;
      standing = λ p _. waits (refl, refl) (omega arith) (λ m _. (0, early_weight p m, omega arith));
    }

-- the weights at the end, at either switch
abbrev last_weights : ℕ → ℕ
last_weights m = cond (eqb m 1) 3 0

weight_of_one : (p : ℕ) → Weighs ring second_sent p 1 3
weight_of_one p = weighs_three (second_sent.taken p 1) (or_right _ _ refl) (λ names here. (holds_two p 1 names here).1)

last_weight : (p m : ℕ) → Weighs ring second_sent p m (last_weights m)
last_weight p m =
    cond_both
    (eqb m 1)
    3
    0
    (Weighs ring second_sent p m)
    (λ on. subst (λ x. Weighs ring second_sent p x 3) (sym (eqb-true m 1 on)) (weight_of_one p))
    (λ off. weighs_nothing 3 1 (second_sent.taken p m) (λ names here. absurd (eqb-false m 1 off (holds_two p m names here).0)))

heaviest : Heaviest last_weights (λ m. eqb m 1)
heaviest =
    record {
      one = 1;
      heavy = omega arith;
      in_it = refl;
      each = each;
      all = λ m same. ⊎_elim (λ on. on) (λ off. let nothing : last_weights m ≡ 0 = cond-false (eqb m 1) 3 0 off in absurd (omega arith)) (cases_Bool (eqb m 1));
    }
  where
    each : (m m' : ℕ) → eqb m 1 ≡ true → last_weights m' ≤ last_weights m
    each m m' on =
        let three : last_weights m ≡ 3 = cond-true (eqb m 1) 3 0 on in
        cond_both (eqb m' 1) 3 0 (λ x. x ≤ last_weights m) (λ _. omega arith) (λ _. omega arith)

pub second_close : Closed ring second_sent ended
second_close =
    record {
      listens = refl;
      rests = refl;
      one_more = refl;
      takes = λ p m names _. refl;
      signs = λ m names. refl;
      standing = λ p _. picks last_weights (λ m. eqb m 1) (refl, refl) refl (last_weight p) heaviest;
    }
