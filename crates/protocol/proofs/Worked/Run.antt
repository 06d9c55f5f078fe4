-- The worked run: its ring is fair, each of its calls keeps to the rules, and it ends as it says. Assumes nothing.
use Rattle.std.proofs.Common.{◌≡◌, ℕ, suc, ◌<◌, Bool, true, cond, ◌≢◌, [], ◌∷◌, take, sym, refl, ap, ◌∙◌, subst, inl, inr, ⊎_elim, arith}
use Rattle.std.proofs.lemmas.Bool.{cases_Bool, both_ways, cond-true, cond-false, false≢true}
use Rattle.chain.specs.Chains.{Proper}
use Rattle.protocol.specs.Rings.{Fair}
use Rattle.protocol.specs.Rounds.{Opened, Signed, Laid}
use Rattle.protocol.specs.WorkedRing.{ring, opened, first_sent, lead_signed, one_told}
use Rattle.protocol.specs.WorkedRun.{Steps, WorkedRun}
use Rattle.protocol.proofs.Worked.Closes.{first_close, second_close}
use Rattle.protocol.proofs.Worked.Sends.{first_send, second_send}
use Rattle.protocol.proofs.Worked.Tests.{is_lead_alone, one_holds}

-- the lower of the two codes that is in a set is a member of it
pub pick_member : (set : ℕ → Bool) (m : ℕ) → m < 2 → set m ≡ true → set (cond (set 0) 0 1) ≡ true
pick_member set m low on =
    ⊎_elim
    (λ first. ap set (cond-true (set 0) 0 1 first) ∙ first)
    (λ none.
    let other : m ≢ 0 = λ same. both_ways (set 0) none (ap set (sym same) ∙ on) in
    let one : 1 ≡ m = omega arith in
    ap set (cond-false (set 0) 0 1 none ∙ one) ∙ on)
    (cases_Bool (set 0))

fair : Fair ring
fair =
    record {
      least = omega arith;
      leads = omega arith;
      faults = omega arith;
      coded = omega arith;
      member = pick_member;
    }

opens : Opened ring opened
opens =
    record {
      closed = refl;
      rests = refl;
      nothing_taken = λ p m names _. refl;
      nothing_signed = λ m names. refl;
      leads = λ sound. absurd (false≢true sound);
      waits = λ p _ _. refl;
    }

-- the name of the lead alone makes a chain
proper : Proper 3 1 0 (0 ∷ [])
proper = record { others = []; split = refl; short = omega arith; within = refl; apart = refl }

sign : Signed ring first_sent lead_signed 1 (0 ∷ [])
sign =
    record {
      listens = refl;
      signer = 0;
      front = [];
      ends = refl;
      faulty = refl;
      proper = proper;
      coded = omega arith;
      still = record { closed = refl; listens = refl; standing = λ p _. refl };
      takes = λ p m names _. refl;
      signs = λ m names on. inr (is_lead_alone m names on);
      keeps = λ m names on. absurd (false≢true on);
      new = refl;
    }

lay : Laid ring lead_signed one_told 1 1 (0 ∷ [])
lay =
    record {
      listens = refl;
      sound = (omega arith, refl);
      waits = refl;
      proper = proper;
      round = refl;
      shown = λ k low. subst (λ x. lead_signed.signed 1 (take (suc x) (0 ∷ [])) ≡ true) (first_only k low) refl;
      still = record { closed = refl; listens = refl; standing = λ p _. refl };
      signs = λ m names. refl;
      takes = λ p m names _ on. inr (one_holds p m names on);
      keeps = λ p m names _ on. absurd (false≢true on);
      new = refl;
    }
  where
    first_only : (k : ℕ) → k < 1 → 0 ≡ k
    first_only k low = omega arith

steps : Steps
steps = record { first_send = first_send; sign = sign; lay = lay; refusal = refl; first_close = first_close; second_send = second_send; second_close = second_close }

pub worked_run : WorkedRun
unfolding steps
worked_run = record { fair = fair; opens = opens; steps = steps; signed = inl (inl (inl (inl (inl (inr (refl, refl)))))); rounds = refl; one_carries = refl; two_carries = refl }
