-- Lemmas: the code of a set with the smallest rank. The law of the choice by list is proved by them. Assumes nothing.
use Rattle.std.specs.Prelude.{◌≡◌, ℕ, zero, suc, ◌+◌, ◌^◌, ◌<◌, ◌≤◌, Bool, true, false, ◌&&◌, List, IfSome, Some, None, Option, ◌≢◌, slice_index, refl}
use Rattle.std.proofs.Common.{sym, ap, subst, ◌∙◌, ⊎_elim, arith}
use Rattle.std.proofs.lemmas.Bool.{cases_Bool, cases_eq, cond-true, cond-false, and_parts, and_from, and_left, and_right, and_cases, ltb-true, ltb-false}
use Rattle.order.specs.Rankings.{beats, earliest, ranked}
use Rattle.order.specs.Sets.{has, Member}
use Rattle.order.specs.Masks.{no_bits}

-- what the best of the codes below n is
pub record Best (ranks : List ℕ) (m n k : ℕ) : Type 0 where
  pub low : k < n
  pub member : has m k ≡ true
  pub first : (j : ℕ) → j < n → has m j ≡ true → slice_index ranks k ≤ slice_index ranks j

abbrev pub IsBest : List ℕ → ℕ → ℕ → Option ℕ → Type 0
IsBest ranks m n None = (j : ℕ) → j < n → has m j ≡ false
IsBest ranks m n (Some k) = Best ranks m n k

true_false : (b : Bool) → b ≡ true → b ≢ false
true_false b t f = let z : ◌≡◌ {A = ℕ} 0 1 = cc in omega arith

module _ (ranks : List ℕ) (m n : ℕ) where
  -- one code more, taken or not
  taken : (o : Option ℕ) → IsBest ranks m n o → has m n ≡ true → beats ranks n o ≡ true → Best ranks m (suc n) n
  taken None none on wins =
      record {
        low = omega arith;
        member = on;
        first = λ j h in_it. ⊎_elim (λ same. rw same (omega arith)) (λ other. absurd (true_false (has m j) in_it (none j (omega arith)))) (cases_eq j n);
      }
  taken (Some k) best on wins =
      let less = ltb-true (slice_index ranks n) (slice_index ranks k) wins in
      record {
        low = omega arith;
        member = on;
        first = λ j h in_it. ⊎_elim (λ same. rw same (omega arith)) (λ other. let more = best.first j (omega arith) in_it in omega arith) (cases_eq j n);
      }

  kept : (o : Option ℕ) → IsBest ranks m n o → (has m n && beats ranks n o) ≡ false → IsBest ranks m (suc n) o
  kept None none off =
      λ j h. ⊎_elim (λ same. ⊎_elim (λ out. rw same out) (λ never. absurd (true_false true refl never)) (and_cases (has m n) true off)) (λ other. none j (omega arith)) (cases_eq j n)
  kept (Some k) best off =
      let low = best.low in
      record {
        low = omega arith;
        member = best.member;
        first = λ j h in_it.
            ⊎_elim
            (λ same.
            let here = subst (λ i. has m i ≡ true) same in_it in
            ⊎_elim (λ out. absurd (true_false (has m n) here out)) (λ later. rw same (ltb-false (slice_index ranks n) (slice_index ranks k) later)) (and_cases (has m n) (beats ranks n (Some k)) off))
            (λ other. best.first j (omega arith) in_it)
            (cases_eq j n);
      }

pub earliest_best : (ranks : List ℕ) (m n : ℕ) → IsBest ranks m n (earliest ranks m n)
earliest_best ranks m zero = λ j h. absurd (omega arith)
earliest_best ranks m (suc n) =
    let so_far = earliest_best ranks m n in
    ⊎_elim
    (λ wins.
    let p = and_parts (has m n) (beats ranks n (earliest ranks m n)) wins in
    subst (IsBest ranks m (suc n)) (sym (cond-true _ _ _ wins)) (taken ranks m n (earliest ranks m n) so_far p.0 p.1))
    (λ loses. subst (IsBest ranks m (suc n)) (sym (cond-false _ _ _ loses)) (kept ranks m n (earliest ranks m n) so_far loses))
    (cases_Bool (has m n && beats ranks n (earliest ranks m n)))

best_member : (ranks : List ℕ) (m : ℕ) (o : Option ℕ) → m < 2 ^ 16 → IsBest ranks m 16 o → Member m o
best_member ranks m None low none = no_bits 16 m low none
best_member ranks m (Some k) low best = best.member

best_first : (ranks : List ℕ) (m : ℕ) (o : Option ℕ) → IsBest ranks m 16 o → IfSome o (λ k. (j : ℕ) → j < 16 → has m j ≡ true → slice_index ranks k ≤ slice_index ranks j)
best_first ranks m None none = tt
best_first ranks m (Some k) best = best.first

pub best_low : (ranks : List ℕ) (m n : ℕ) (o : Option ℕ) → n ≤ 16 → IsBest ranks m n o → IfSome o (λ k. k < 16)
best_low ranks m n None most none = tt
best_low ranks m n (Some k) most best = let low = best.low in omega arith

-- the loop's turn
module _ (ranks : List ℕ) (m n : ℕ) (b : Option ℕ) (so_far : b ≡ earliest ranks m n) where
  next : n + 1 ≡ suc n
  next = omega arith

  pub wins : has m n ≡ true → beats ranks n b ≡ true → Some n ≡ earliest ranks m (n + 1)
  wins on before =
      sym (ap (earliest ranks m) next ∙ cond-true _ _ _ (and_from _ _ on (subst (λ o. beats ranks n o ≡ true) so_far before)))

  pub stays_out : has m n ≡ false → b ≡ earliest ranks m (n + 1)
  stays_out off = so_far ∙ sym (ap (earliest ranks m) next ∙ cond-false _ _ _ (and_left _ _ off))

  pub stays_behind : beats ranks n b ≡ false → b ≡ earliest ranks m (n + 1)
  stays_behind later =
      so_far ∙ sym (ap (earliest ranks m) next ∙ cond-false _ _ _ (and_right _ _ (subst (λ o. beats ranks n o ≡ false) so_far later)))

  pub best_so_far : IsBest ranks m n b
  best_so_far = subst (IsBest ranks m n) (sym so_far) (earliest_best ranks m n)

pub ranked_is : (ranks : List ℕ) (m n : ℕ) (b : Option ℕ) → b ≡ earliest ranks m n → n ≡ 16 → b ≡ ranked ranks m
unfolding ranked
ranked_is ranks m n b so_far end = so_far ∙ ap (earliest ranks m) end

pub ranked_member : (ranks : List ℕ) (m : ℕ) → m < 2 ^ 16 → Member m (ranked ranks m)
unfolding ranked
ranked_member ranks m low = best_member ranks m (earliest ranks m 16) low (earliest_best ranks m 16)

pub ranked_first : (ranks : List ℕ) (m : ℕ) (b : Option ℕ) → b ≡ ranked ranks m → IfSome b (λ k. (j : ℕ) → j < 16 → has m j ≡ true → slice_index ranks k ≤ slice_index ranks j)
unfolding ranked
ranked_first ranks m b is = best_first ranks m b (subst (IsBest ranks m 16) (sym is) (earliest_best ranks m 16))
