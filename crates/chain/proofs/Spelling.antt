-- The names of a rank as they are written, digit by digit. Assumes nothing.
use Rattle.std.proofs.Common.{◌≡◌, ℕ, suc, ◌+◌, ◌-◌, ◌*◌, ◌/◌, ◌%◌, ◌<◌, ◌≤◌, true, false, not, ◌&&◌, ◌||◌, eqb, ltb, List, [], ◌∷◌, ◌++◌, length, sym, ap, ◌∙◌, subst, ⊎_elim, mul-le-mul_right, mod-lt, mul_comm, mul-zero, div-add-mod', zero-mul, refl, arith}
use Rattle.std.proofs.lemmas.List.{append_assoc, length-append}
use Rattle.std.proofs.lemmas.Bool.{cases_lt, not_from_false, and_from, lt-ltb}
use Rattle.counting.specs.Lists.{has, tally}
use Rattle.counting.proofs.Tallies.{tally_alike}
use Rattle.chain.specs.declared.name_sets.NameSet.{NameSet}
use Rattle.chain.specs.NameSets.{in_set}
use Rattle.chain.specs.Ranks.{ways, shorter, is_new, nth, spelled}
use Rattle.chain.proofs.Bounds.{ways_last, ways_low}
use Rattle.chain.proofs.NameSets.{all_low}
use Rattle.chain.proofs.Numbering.{new_names}
use Rattle.chain.proofs.Ranks.{tally_one, nth_is, fewer_new, digits_back}

-- the chains with fewer names were left behind
pub record Shortened (free most index others rank way : ℕ) : Type 0 where
  pub whole : shorter free others + rank ≡ index
  pub ways_is : way ≡ ways free others
  pub few : others ≤ most

module _ (free most index others rank way : ℕ) (s : Shortened free most index others rank way) (low : index < shorter free (most + 1)) (longer : way ≤ rank) where
  pub not_longest : others < most
  not_longest =
      ⊎_elim
      (λ less. less)
      (λ ge.
      absurd (let w = s.whole in let i = s.ways_is in let f = s.few in let e : most + 1 ≡ suc others = omega arith in let h = ap (shorter free) e in omega arith))
      (cases_lt others most)

  pub shortened_more : Shortened free most index (others + 1) (rank - way) (way * (free - others))
  shortened_more =
      let e : others + 1 ≡ suc others = omega arith in
      let h = ap (shorter free) e in
      let w = s.whole in
      let i = s.ways_is in
      let n = not_longest in
      record {
        whole = omega arith;
        ways_is = ap (λ z. z * (free - others)) s.ways_is ∙ sym (ways_last free others) ∙ sym (ap (ways free) e);
        few = omega arith;
      }

  pub more_ways_low : free ≤ 11 → way * (free - others) ≤ 108505112
  more_ways_low few = let e = ap (λ z. z * (free - others)) s.ways_is ∙ sym (ways_last free others) in let l = ways_low free (suc others) few in omega arith

-- i names after the lead were written, and those that are left are the names of the rank that is left
pub record Spelling (n lead others rank i : ℕ) (names : List ℕ) (seen : NameSet) (free way left : ℕ) : Type 0 where
  pub before : List ℕ
  pub set : (q : ℕ) → in_set seen q ≡ has q before
  pub free_is : free ≡ tally (is_new before) n
  pub ways_is : way ≡ ways free (others - i)
  pub low : left < way
  pub long : length names ≡ i + 1
  pub same : names ++ spelled n free before (others - i) left ≡ lead ∷ spelled n (n - 1) (lead ∷ []) others rank

pub spelling_none : (n lead others rank way : ℕ) (names : List ℕ) (seen : NameSet) → names ≡ lead ∷ [] → ((q : ℕ) → in_set seen q ≡ (ltb q 16 && has q (lead ∷ []))) → lead < n → n ≤ 12 → way ≡ ways (n - 1) others → rank < way → Spelling n lead others rank 0 names seen (n - 1) way rank
spelling_none n lead others rank way names seen alone of low few is less =
    let e : others - 0 ≡ others = omega arith in
    record {
      before = lead ∷ [];
      set = λ q. of q ∙ all_low (lead ∷ []) q (and_from _ _ (lt-ltb lead 16 (omega arith)) refl);
      free_is = new_names n lead low;
      ways_is = is ∙ sym (ap (ways (n - 1)) e);
      low = less;
      long = ap length alone;
      same = (λ k. alone k ++ spelled n (n - 1) (lead ∷ []) (e k) rank);
    }

module _ (n lead others rank i : ℕ) (names : List ℕ) (seen : NameSet) (free way left : ℕ) (s : Spelling n lead others rank i names seen free way left) (on : i < others) where
  way_is : way ≡ free * ways (free - 1) (others - (i + 1))
  way_is = let e : others - i ≡ suc (others - (i + 1)) = omega arith in s.ways_is ∙ ap (ways free) e

  pub free_some : 0 < free
  free_some = ⊎_elim (λ a. a) (λ none. absurd (let z : free ≡ 0 = omega arith in let e = ap (λ f. f * ways (free - 1) (others - (i + 1))) z in let m = zero-mul (ways (free - 1) (others - (i + 1))) in let w = way_is in let l = s.low in omega arith)) (cases_lt 0 free)

  -- what a digit counts for
  pub divided : way / free ≡ ways (free - 1) (others - (i + 1))
  divided =
      let w = ways (free - 1) (others - (i + 1)) in
      let e : way ≡ w * free + 0 = let m = mul_comm free w in let i = way_is in omega arith in
      ap (λ z. z / free) e ∙ (digits_back w 0 free free_some).0

  ways_some : 0 < ways (free - 1) (others - (i + 1))
  ways_some = let w = ways (free - 1) (others - (i + 1)) in ⊎_elim (λ a. a) (λ none. absurd (let z : w ≡ 0 = omega arith in let e = ap (λ q. free * q) z in let m = mul-zero free in let i = way_is in let l = s.low in omega arith)) (cases_lt 0 w)

  pub divided_some : 0 < way / free
  divided_some = let d = divided in let w = ways_some in omega arith

  new_tally : (m : ℕ) → tally (is_new s.before) m ≡ tally (λ q. not (in_set seen q)) m
  new_tally m = tally_alike (is_new s.before) (λ q. not (in_set seen q)) m (λ q _. ap not (sym (s.set q)))

  digit_low : left / ways (free - 1) (others - (i + 1)) < tally (λ q. not (in_set seen q)) n
  digit_low =
      let w = ways (free - 1) (others - (i + 1)) in
      let whole = div-add-mod' left w in
      let d : left / w < free = ⊎_elim (λ a. a) (λ ge. absurd (let m = mul-le-mul_right w ge in let i = way_is in let l = s.low in omega arith)) (cases_lt (left / w) free) in
      let t = new_tally n in
      let f = s.free_is in
      omega arith

  pub enough : left / (way / free) < tally (λ q. not (in_set seen q)) n
  enough = subst (λ w. left / w < tally (λ q. not (in_set seen q)) n) (sym divided) digit_low

  module _ (x : ℕ) (low : x < n) (new : in_set seen x ≡ false) (at : tally (λ q. not (in_set seen q)) x ≡ left / (way / free)) where
    x_new : is_new s.before x ≡ true
    x_new = not_from_false _ (sym (s.set x) ∙ new)

    x_is : nth (is_new s.before) n (left / ways (free - 1) (others - (i + 1))) ≡ x
    x_is =
        let d = digit_low in
        let there = nth_is (is_new s.before) n (left / ways (free - 1) (others - (i + 1))) (let t = new_tally n in omega arith) in
        tally_one (is_new s.before) _ x there.passes x_new (there.above ∙ sym (ap (λ w. left / w) divided) ∙ sym at ∙ sym (new_tally x))

    pub spelling_more : (names' : List ℕ) (seen' : NameSet) → names' ≡ names ++ x ∷ [] → (x < 16 → (q : ℕ) → in_set seen' q ≡ (eqb q x || in_set seen q)) → n ≤ 12 → Spelling n lead others rank (i + 1) names' seen' (free - 1) (way / free) (left % (way / free))
    spelling_more names' seen' written put small =
        let w = ways (free - 1) (others - (i + 1)) in
        let e : others - i ≡ suc (others - (i + 1)) = omega arith in
        let rest = spelled n (free - 1) (x ∷ s.before) (others - (i + 1)) (left % w) in
        record {
          before = x ∷ s.before;
          set = λ q. put (omega arith) q ∙ ap (λ b. eqb q x || b) (s.set q);
          free_is = fewer_new n free s.before x s.free_is low x_new;
          ways_is = divided;
          low = subst (λ z. left % z < z) (sym divided) (mod-lt left ways_some);
          long = ap length written ∙ length-append names (x ∷ []) ∙ ap (λ k. k + 1) s.long;
          same =
              (λ j. written j ++ spelled n (free - 1) (x ∷ s.before) (others - (i + 1)) (left % divided j)) ∙ append_assoc names (x ∷ []) rest ∙ sym (λ j. names ++ x_is j ∷ spelled n (free - 1) (x_is j ∷ s.before) (others - (i + 1)) (left % w)) ∙ sym (ap (λ k. names ++ spelled n free s.before k left) e) ∙ s.same;
        }
