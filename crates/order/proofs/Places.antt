-- The table of first places of a list, from its last place to the first. Assumes nothing.
use Rattle.std.proofs.Common.{◌≡◌, ℕ, ◌-◌, ◌<◌, ◌≤◌, true, List, length, get_or, set, sym, ap, ◌∙◌, subst, ⊎_elim, arith, length-set, get_or-set_other, get_or-set_same, ◌≢◌}
use Rattle.std.proofs.lemmas.Bool.{cases_eq}
use Rattle.counting.specs.Lists.{has}
use Rattle.counting.proofs.Tallies.{full_distinct, has_at, tally_all}
use Rattle.order.specs.Rankings.{EachOnce, FirstPlaces, Ranks}

-- the table has the first of the places from i on of each code that stands there
pub record Tabled (list ranks : List ℕ) (i : ℕ) : Type 0 where
  pub sixteen : length ranks ≡ 16
  pub within : (c : ℕ) → c < 16 → get_or ranks c 0 < 16
  pub first : (c j : ℕ) → c < 16 → i ≤ j → j < length list → get_or list j 0 ≡ c → (get_or ranks c 0 ≤ j) × (get_or list (get_or ranks c 0) 0 ≡ c)

-- no place was looked at
pub table_none : (list ranks : List ℕ) → length list ≡ 16 → length ranks ≡ 16 → ((c : ℕ) → c < 16 → get_or ranks c 0 < 16) → Tabled list ranks 16
table_none list ranks long sixteen within =
    record { sixteen = sixteen; within = within; first = λ c j low from inside is. absurd (omega arith) }

module _ (list ranks : List ℕ) (i : ℕ) (long : length list ≡ 16) (some : 0 < i) (few : i ≤ 16) (t : Tabled list ranks i) where
  -- the code of this place gets it
  pub table_set : get_or list (i - 1) 0 < 16 → Tabled list (set ranks (get_or list (i - 1) 0) (i - 1)) (i - 1)
  table_set small =
      let k = get_or list (i - 1) 0 in
      let sixteen = t.sixteen in
      let mine : (c : ℕ) → c ≡ k → get_or (set ranks k (i - 1)) c 0 ≡ i - 1 = λ c same. ap (λ n. get_or (set ranks k (i - 1)) n 0) same ∙ get_or-set_same ranks k (i - 1) 0 (omega arith) in
      let kept : (c : ℕ) → c ≢ k → get_or (set ranks k (i - 1)) c 0 ≡ get_or ranks c 0 = λ c other. get_or-set_other ranks k c (i - 1) 0 other in
      record {
        sixteen = length-set ranks k (i - 1) ∙ sixteen;
        within = λ c low.
            ⊎_elim
            (λ same. let here = mine c same in omega arith)
            (λ other. let here = kept c other in let old = t.within c low in omega arith)
            (cases_eq c k);
        first = λ c j low from inside is.
            ⊎_elim
            (λ same. let here = mine c same in (omega arith, ap (λ n. get_or list n 0) here ∙ sym same))
            (λ other.
            let here = kept c other in
            let later : i ≤ j = ⊎_elim (λ at. absurd (other (sym is ∙ ap (λ n. get_or list n 0) at))) (λ not. omega arith) (cases_eq j (i - 1)) in
            let old = t.first c j low later inside is in
            (omega (arith, old.0), ap (λ n. get_or list n 0) here ∙ old.1))
            (cases_eq c k);
      }

  -- this place has no code
  pub table_kept : 16 ≤ get_or list (i - 1) 0 → Tabled list ranks (i - 1)
  table_kept high =
      record {
        sixteen = t.sixteen;
        within = t.within;
        first = λ c j low from inside is.
            let later : i ≤ j = ⊎_elim (λ at. absurd (let there = ap (λ n. get_or list n 0) at in omega arith)) (λ not. omega arith) (cases_eq j (i - 1)) in
            t.first c j low later inside is;
      }

pub table_full : (list ranks : List ℕ) (i : ℕ) → i ≤ 0 → Tabled list ranks i → FirstPlaces list ranks
table_full list ranks i none t =
    record { sixteen = t.sixteen; within = t.within; first = λ c j low inside is. t.first c j low (omega arith) inside is }

module _ (list ranks : List ℕ) (long : length list ≡ 16) (f : FirstPlaces list ranks) where
  -- a code that doesn't stand where the table says stands nowhere
  pub one_missing : (c : ℕ) → c < 16 → get_or list (get_or ranks c 0) 0 ≢ c → EachOnce list → ⊥
  one_missing c low not once =
      let e = once.each c low in
      let h = e.1 in
      not (f.first c e.0 low (omega arith) e.2).1

  -- sixteen places with all sixteen codes have none twice
  pub all_placed : (k : ℕ) → k ≡ 16 → ((c : ℕ) → c < k → get_or list (get_or ranks c 0) 0 ≡ c) → Ranks list ranks
  all_placed k end stands =
      let here = λ (c : ℕ) (low : c < 16). stands c (omega arith) in
      record {
        once = record {
          sixteen = long;
          each = λ c low. (get_or ranks c 0, f.within c low, here c low);
          none_twice = full_distinct list 16 (tally_all (λ p. has p list) 16 (λ c low. subst (λ p. has p list ≡ true) (here c low) (has_at list (get_or ranks c 0) (let w = f.within c low in omega arith))) ∙ sym long);
        };
        places = λ c low.
            let w = f.within c low in
            record { within = omega arith; here = here c low; not_before = λ j before is. let p = (f.first c j low (omega arith) is).0 in omega arith };
      }
