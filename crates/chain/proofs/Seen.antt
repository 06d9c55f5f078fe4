-- A scan over names with the set of those seen. Assumes nothing.
use Rattle.std.proofs.Common.{◌≡◌, ℕ, suc, ◌+◌, ◌<◌, ◌≤◌, ◌||◌, eqb, List, [], ◌∷◌, ◌++◌, length, get_or, take, drop, Some, None, sym, ap, ◌∙◌, arith}
use Rattle.std.proofs.lemmas.List.{at_drop_more, at_drop_all, take_more}
use Rattle.counting.specs.Lists.{has}
use Rattle.counting.proofs.Pushes.{has_push_is}
use Rattle.chain.specs.declared.name_sets.NameSet.{NameSet}
use Rattle.chain.specs.declared.refusals.Refusal.{Refusal}
use Rattle.std.specs.Option.{option_or}
use Rattle.chain.specs.Faults.{fault_of_name, first_fault}
use Rattle.chain.specs.NameSets.{in_set}
use Rattle.chain.proofs.FirstFaults.{Fine, fine_from, fine_none}

-- i names were looked at, and none had a fault
pub record Scanned (n lead : ℕ) (names : List ℕ) (i : ℕ) (seen : NameSet) : Type 0 where
  pub same : first_fault n lead (i + 1) (take i names) (drop i names) ≡ first_fault n lead 1 [] names
  pub set : (p : ℕ) → in_set seen p ≡ has p (take i names)

module _ (n lead : ℕ) (names : List ℕ) (i : ℕ) (seen : NameSet) (s : Scanned n lead names i seen) (on : i < length names) where
  seen_is : in_set seen (get_or names i 0) ≡ has (get_or names i 0) (take i names)
  seen_is = s.set (get_or names i 0)

  -- the fault of this name is the first
  pub fault_here : (e : Refusal) → fault_of_name n lead (i + 1) (in_set seen (get_or names i 0)) (get_or names i 0) ≡ Some e → first_fault n lead 1 [] names ≡ Some e
  fault_here e is =
      sym s.same ∙ at_drop_more (first_fault n lead (i + 1) (take i names)) names i 0 on ∙ ap (λ o. option_or o (first_fault n lead (suc (i + 1)) (take i names ++ get_or names i 0 ∷ []) (drop (i + 1) names))) (ap (λ b. fault_of_name n lead (i + 1) b (get_or names i 0)) (sym seen_is) ∙ is)

  fine_here : fault_of_name n lead (i + 1) (in_set seen (get_or names i 0)) (get_or names i 0) ≡ None → Fine n lead (i + 1) (take i names) (get_or names i 0)
  fine_here is = fine_from n lead (i + 1) (take i names) (get_or names i 0) (ap (λ b. fault_of_name n lead (i + 1) b (get_or names i 0)) (sym seen_is) ∙ is)

  -- this name has none
  pub one_more : (seen' : NameSet) → fault_of_name n lead (i + 1) (in_set seen (get_or names i 0)) (get_or names i 0) ≡ None → n ≤ 12 → (get_or names i 0 < 16 → (q : ℕ) → in_set seen' q ≡ (eqb q (get_or names i 0) || in_set seen q)) → Scanned n lead names (i + 1) seen'
  one_more seen' none few put =
      let x = get_or names i 0 in
      let f = fine_here none in
      let low = f.low in
      let taken = take_more names i 0 on in
      let next : i + 1 + 1 ≡ suc (i + 1) = omega arith in
      record {
        same =
            (λ k. first_fault n lead (next k) (taken k) (drop (i + 1) names)) ∙ sym (at_drop_more (first_fault n lead (i + 1) (take i names)) names i 0 on ∙ ap (λ o. option_or o (first_fault n lead (suc (i + 1)) (take i names ++ x ∷ []) (drop (i + 1) names))) (fine_none n lead (i + 1) (take i names) x f)) ∙ s.same;
        set = λ p. put (omega arith) p ∙ ap (λ b. eqb p x || b) (s.set p) ∙ sym (has_push_is (take i names) x p) ∙ ap (has p) (sym taken);
      }

pub scanned_all : (n lead : ℕ) (names : List ℕ) (i : ℕ) (seen : NameSet) → Scanned n lead names i seen → length names ≤ i → first_fault n lead 1 [] names ≡ None
scanned_all n lead names i seen s end = sym s.same ∙ at_drop_all (first_fault n lead (i + 1) (take i names)) names i end
