-- The rank of names as they are read, digit by digit. Assumes nothing.
use Rattle.std.proofs.Common.{◌≡◌, ℕ, ◌+◌, ◌-◌, ◌*◌, ◌^◌, ◌<◌, ◌≤◌, true, not, ◌&&◌, ◌||◌, eqb, ltb, List, [], ◌∷◌, length, get_or, drop, sym, refl, ap, ◌∙◌, subst, mul_assoc, add-mul, zero-mul, le-mul_of_pos_right, arith}
use Rattle.std.proofs.lemmas.List.{at_drop_more}
use Rattle.std.proofs.lemmas.Bool.{and_from, lt-ltb}
use Rattle.counting.specs.Lists.{has, tally}
use Rattle.counting.proofs.Tallies.{tally_alike}
use Rattle.chain.specs.declared.name_sets.NameSet.{NameSet}
use Rattle.chain.specs.Chains.{Proper}
use Rattle.chain.specs.NameSets.{in_set}
use Rattle.chain.specs.Ranks.{ways, is_new, rank}
use Rattle.chain.proofs.Bounds.{ways_low}
use Rattle.chain.proofs.FirstFaults.{Good}
use Rattle.chain.proofs.NameSets.{all_low}
use Rattle.chain.proofs.Numbering.{new_names, lead_low}
use Rattle.chain.proofs.Ranks.{tally_passes, fewer_new, head_low, head_new, rest_good, rank_below}

-- i names were read: `done` is the number that their digits make, and the names from there on have the rest of the rank
pub record Ranking (n lead : ℕ) (rest : List ℕ) (i : ℕ) (seen : NameSet) (free done : ℕ) : Type 0 where
  pub before : List ℕ
  pub set : (q : ℕ) → in_set seen q ≡ has q before
  pub free_is : free ≡ tally (is_new before) n
  pub good : Good n before (drop i rest)
  pub same : done * ways free (length (drop i rest)) + rank free before (drop i rest) ≡ rank (n - 1) (lead ∷ []) rest
  pub low : rank (n - 1) (lead ∷ []) rest < 2 ^ 32

module _ (n t lead : ℕ) (rest : List ℕ) (p : Proper n t lead (lead ∷ rest)) (few : n ≤ 12) where
  lead_is_low : lead < n
  lead_is_low = lead_low n t lead (lead ∷ rest) p

  rest_new : Good n (lead ∷ []) rest
  rest_new = rest_good n [] lead rest (record { low = p.within; apart = p.apart; new = λ y _. refl })

  pub ranking_none : (seen : NameSet) → ((q : ℕ) → in_set seen q ≡ (ltb q 16 && has q (lead ∷ []))) → Ranking n lead rest 0 seen (n - 1) 0
  ranking_none seen of =
      let l = lead_is_low in
      record {
        before = lead ∷ [];
        set = λ q. of q ∙ all_low (lead ∷ []) q (and_from _ _ (lt-ltb lead 16 (omega arith)) refl);
        free_is = new_names n lead l;
        good = rest_new;
        same = let z = zero-mul (ways (n - 1) (length rest)) in omega arith;
        low = let b = rank_below n (n - 1) (lead ∷ []) rest (new_names n lead l) rest_new in let w = ways_low (n - 1) (length rest) (omega arith) in omega arith;
      }

module _ (n lead : ℕ) (rest : List ℕ) (i : ℕ) (seen : NameSet) (free done : ℕ) (s : Ranking n lead rest i seen free done) (on : i < length rest) where
  left : Good n s.before (get_or rest i 0 ∷ drop (i + 1) rest)
  left = subst (Good n s.before) (at_drop_more (λ l. l) rest i 0 on) s.good

  pub name_low : get_or rest i 0 < n
  name_low = head_low n s.before (get_or rest i 0) (drop (i + 1) rest) left

  name_new : is_new s.before (get_or rest i 0) ≡ true
  name_new = head_new n s.before (get_or rest i 0) (drop (i + 1) rest) left

  later : Good n (get_or rest i 0 ∷ s.before) (drop (i + 1) rest)
  later = rest_good n s.before (get_or rest i 0) (drop (i + 1) rest) left

  fewer : free - 1 ≡ tally (is_new (get_or rest i 0 ∷ s.before)) n
  fewer = fewer_new n free s.before (get_or rest i 0) s.free_is name_low name_new

  digit_is : tally (λ q. not (in_set seen q)) (get_or rest i 0) ≡ tally (is_new s.before) (get_or rest i 0)
  digit_is = tally_alike _ _ (get_or rest i 0) (λ q _. ap not (s.set q))

  pub free_some : 1 ≤ free
  free_some =
      let p = tally_passes (is_new s.before) (get_or rest i 0) n name_new name_low in
      let f = s.free_is in
      omega arith

  module _ (digit : ℕ) (is : digit ≡ tally (λ q. not (in_set seen q)) (get_or rest i 0)) where
    next_same : (done * free + digit) * ways (free - 1) (length (drop (i + 1) rest)) + rank (free - 1) (get_or rest i 0 ∷ s.before) (drop (i + 1) rest) ≡ rank (n - 1) (lead ∷ []) rest
    next_same =
        let w = ways (free - 1) (length (drop (i + 1) rest)) in
        let r = rank (free - 1) (get_or rest i 0 ∷ s.before) (drop (i + 1) rest) in
        let d = tally (is_new s.before) (get_or rest i 0) in
        let e = ap (λ z. z * w) (is ∙ digit_is) in
        let a = add-mul (done * free) digit w in
        let b = mul_assoc done free w in
        let whole : done * (free * w) + (d * w + r) ≡ rank (n - 1) (lead ∷ []) rest = sym (at_drop_more (λ l. done * ways free (length l) + rank free s.before l) rest i 0 on) ∙ s.same in
        omega arith

    -- the number made so far is at most the rank
    pub next_low : done * free + digit < 2 ^ 32
    next_low =
        let w = ways (free - 1) (length (drop (i + 1) rest)) in
        let r = rank_below n (free - 1) (get_or rest i 0 ∷ s.before) (drop (i + 1) rest) fewer later in
        let m = le-mul_of_pos_right {m = w} (done * free + digit) (omega arith) in
        let e = next_same in
        let l = s.low in
        omega arith

    pub next_ranking : (seen' : NameSet) → n ≤ 12 → (get_or rest i 0 < 16 → (q : ℕ) → in_set seen' q ≡ (eqb q (get_or rest i 0) || in_set seen q)) → Ranking n lead rest (i + 1) seen' (free - 1) (done * free + digit)
    next_ranking seen' few put =
        let x = get_or rest i 0 in
        let l = name_low in
        record {
          before = x ∷ s.before;
          set = λ q. put (omega arith) q ∙ ap (λ b. eqb q x || b) (s.set q);
          free_is = fewer;
          good = later;
          same = next_same;
          low = s.low;
        }
