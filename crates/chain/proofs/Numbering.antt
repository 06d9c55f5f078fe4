-- The places of proper chains have the order of the chains, and none is left out. Assumes nothing.
use Rattle.std.proofs.Common.{◌≡◌, ℕ, zero, suc, ◌+◌, ◌-◌, ◌*◌, ◌/◌, ◌%◌, ◌^◌, ◌<◌, ◌≤◌, ◌&&◌, ◌||◌, eqb, ltb, List, [], ◌∷◌, length, get_or, take, drop, sym, refl, ap, ◌∙◌, subst, ⊎_elim, mul-le-mul_right, mod-lt, suc-mul, mul-le-mul, div-add-mod', arith}
use Rattle.std.proofs.lemmas.List.{take_all}
use Rattle.std.proofs.lemmas.Bool.{cases_lt, and_left, or_left, or_from, eq-eqb, ne_eqb, lt-ltb}
use Rattle.counting.specs.Lists.{tally}
use Rattle.counting.proofs.Tallies.{tally_all}
use Rattle.chain.specs.Chains.{Proper}
use Rattle.chain.specs.Ranks.{ways, shorter, is_new, rank, spelled, sooner}
use Rattle.chain.specs.Places.{per_order, within, place_of, precedes, At, Places, Spans}
use Rattle.chain.proofs.Bounds.{shorter_low}
use Rattle.chain.proofs.FirstFaults.{Good}
use Rattle.chain.proofs.Ranks.{fewer_new, below_product, digit_unique, digits_back, head_low, rest_good, good_cons, rank_below, spelled_rank, spelled_is, ltb_not, ltb_shift, rank_sooner}

-- shorter chains
grows_by : (free k d : ℕ) → shorter free k ≤ shorter free (k + d)
grows_by free k zero = let e : k + 0 ≡ k = omega arith in let h = ap (shorter free) e in omega arith
grows_by free k (suc d) = let r = grows_by free k d in let e : k + suc d ≡ suc (k + d) = omega arith in let h = ap (shorter free) e in omega arith

pub shorter_grows : (free k m : ℕ) → k ≤ m → shorter free k ≤ shorter free m
shorter_grows free k m le = let e : k + (m - k) ≡ m = omega arith in subst (λ z. shorter free k ≤ shorter free z) e (grows_by free k (m - k))

pub record Lengths (free most i : ℕ) : Type 0 where
  pub k : ℕ
  pub few : k < most
  pub low : shorter free k ≤ i
  pub high : i < shorter free (suc k)

pub length_of : (free most i : ℕ) → i < shorter free most → Lengths free most i
length_of free zero i l = absurd (omega arith)
length_of free (suc most) i l =
    ⊎_elim
    (λ less. let r = length_of free most i less in let few = r.few in record { k = r.k; few = omega arith; low = r.low; high = r.high })
    (λ ge. record { k = most; few = omega arith; low = ge; high = l })
    (cases_lt i (shorter free most))

-- the names after the lead are new
pub new_names : (n lead : ℕ) → lead < n → n - 1 ≡ tally (is_new (lead ∷ [])) n
new_names n lead low = fewer_new n n [] lead (sym (tally_all (is_new []) n (λ p _. refl))) low refl

module _ (n t lead : ℕ) (names : List ℕ) (p : Proper n t lead names) where
  all_good : Good n [] (lead ∷ p.others)
  all_good = subst (Good n []) p.split (record { low = p.within; apart = p.apart; new = λ y _. refl })

  pub lead_low : lead < n
  lead_low = head_low n [] lead p.others all_good

  pub others_good : Good n (lead ∷ []) p.others
  others_good = rest_good n [] lead p.others all_good

  pub others_few : length p.others ≤ t
  others_few = let l = ap length p.split in let s = p.short in omega arith

  rank_low : rank (n - 1) (lead ∷ []) p.others < ways (n - 1) (length p.others)
  rank_low = rank_below n (n - 1) (lead ∷ []) p.others (new_names n lead lead_low) others_good

  within_is : within n names ≡ shorter (n - 1) (length p.others) + rank (n - 1) (lead ∷ []) p.others
  within_is = ap (within n) p.split

  pub within_low : shorter (n - 1) (length names - 1) ≤ within n names
  within_low =
      let l = ap length p.split in
      let e : length names - 1 ≡ length p.others = omega arith in
      let h = ap (shorter (n - 1)) e in
      let w = within_is in
      omega arith

  pub within_high : within n names < shorter (n - 1) (length names)
  within_high =
      let h = ap (λ x. shorter (n - 1) (length x)) p.split in
      let w = within_is in
      let r = rank_low in
      omega arith

  pub within_all : within n names < per_order n t
  within_all = let g = shorter_grows (n - 1) (length names) (t + 1) p.short in let h = within_high in omega arith

-- the order of two chains of one code
sooner_after : (x : ℕ) (xs ys : List ℕ) → sooner (x ∷ xs) (x ∷ ys) ≡ sooner xs ys
sooner_after x xs ys = λ k. ltb_not x x (omega arith) k || (eq-eqb x x refl k && sooner xs ys)

module _ (n t lead : ℕ) (a b : List ℕ) (p : Proper n t lead a) (q : Proper n t lead b) where
  as_long : length a ≡ length b → ltb (within n a) (within n b) ≡ sooner a b
  as_long long =
      let i = ap length p.split in
      let j = ap length q.split in
      let same : length p.others ≡ length q.others = omega arith in
      let front = shorter (n - 1) (length p.others) in
      let start : shorter (n - 1) (length q.others) ≡ front = ap (shorter (n - 1)) (sym same) in
      (λ k. ltb (within n (p.split k)) (within n (q.split k))) ∙
      ap (λ z. ltb (front + rank (n - 1) (lead ∷ []) p.others) (z + rank (n - 1) (lead ∷ []) q.others)) start ∙
      ltb_shift front _ _ ∙
      rank_sooner n (n - 1) (lead ∷ []) p.others q.others (new_names n lead (lead_low n t lead a p)) (others_good n t lead a p) (others_good n t lead b q) same ∙
      sym ((λ k. sooner (p.split k) (q.split k)) ∙ sooner_after lead p.others q.others)

  pub one_code : ltb (within n a) (within n b) ≡ (ltb (length a) (length b) || (eqb (length a) (length b) && sooner a b))
  one_code =
      ⊎_elim
      (λ less.
      let high = within_high n t lead a p in
      let low = within_low n t lead b q in
      let g = shorter_grows (n - 1) (length a) (length b - 1) (omega arith) in
      lt-ltb (within n a) (within n b) (omega arith) ∙ sym (or_left _ _ (lt-ltb (length a) (length b) less)))
      (λ ge.
      ⊎_elim
      (λ more.
      let high = within_high n t lead b q in
      let low = within_low n t lead a p in
      let g = shorter_grows (n - 1) (length b) (length a - 1) (omega arith) in
      ltb_not (within n a) (within n b) (omega arith) ∙ sym (or_from _ _ (ltb_not (length a) (length b) ge) (and_left _ _ (ne_eqb (length a) (length b) (λ eq. omega arith)))))
      (λ le.
      let eq : length a ≡ length b = omega arith in
      as_long eq ∙ sym (λ k. ltb_not (length a) (length b) ge k || (eq-eqb (length a) (length b) eq k && sooner a b)))
      (cases_lt (length b) (length a)))
      (cases_lt (length a) (length b))

  pub ordered : (c d : ℕ) → ltb (place_of n t c a) (place_of n t d b) ≡ precedes c a d b
  ordered c d =
      let u = within_all n t lead a p in
      let v = within_all n t lead b q in
      let N = per_order n t in
      ⊎_elim
      (λ less.
      let up = below_product c (within n a) N d less u in
      lt-ltb (place_of n t c a) (place_of n t d b) (omega arith) ∙ sym (or_left _ _ (lt-ltb c d less)))
      (λ ge.
      ⊎_elim
      (λ more.
      let up = below_product d (within n b) N c more v in
      ltb_not (place_of n t c a) (place_of n t d b) (omega arith) ∙ sym (or_from _ _ (ltb_not c d ge) (and_left _ _ (ne_eqb c d (λ eq. omega arith)))))
      (λ le.
      let eq : c ≡ d = omega arith in
      ap (λ z. ltb (c * N + within n a) (z * N + within n b)) (sym eq) ∙ ltb_shift (c * N) (within n a) (within n b) ∙ one_code ∙ sym (λ k. ltb_not c d ge k || (eq-eqb c d eq k && (ltb (length a) (length b) || (eqb (length a) (length b) && sooner a b)))))
      (cases_lt d c))
      (cases_lt c d)

-- the chain of a place
pub some_chain : (n t : ℕ) → 0 < per_order n t
some_chain n t = let g = shorter_grows (n - 1) 1 (t + 1) (omega arith) in omega arith

-- the names of a rank make a proper chain
pub record Chained (n t lead k r : ℕ) (names : List ℕ) : Type 0 where
  pub proper : Proper n t lead names
  pub at : within n names ≡ shorter (n - 1) k + r

pub spelled_chain : (n t lead k r : ℕ) → lead < n → k ≤ t → r < ways (n - 1) k → Chained n t lead k r (lead ∷ spelled n (n - 1) (lead ∷ []) k r)
spelled_chain n t lead k r low few less =
    let s = spelled_is n (n - 1) (lead ∷ []) k r (new_names n lead low) less in
    let xs = spelled n (n - 1) (lead ∷ []) k r in
    let g = good_cons n [] lead xs low refl s.good in
    let long = s.long in
    record {
      proper = record { others = xs; split = refl; short = omega arith; within = g.low; apart = g.apart };
      at = λ j. shorter (n - 1) (s.long j) + s.ranked j;
    }

pub onto : (n t lead place : ℕ) → lead < n → At n t lead place
onto n t lead place low =
    let N = per_order n t in
    let i = place % N in
    let l = length_of (n - 1) (t + 1) i (mod-lt place (some_chain n t)) in
    let first = shorter (n - 1) l.k in
    let few = l.few in
    let from = l.low in
    let to = l.high in
    let c = spelled_chain n t lead l.k (i - first) low (omega arith) (omega arith) in
    let sum : first + (i - first) ≡ i = omega arith in
    record { names = _; proper = c.proper; there = ap (λ z. place / N * N + z) (c.at ∙ sum) ∙ div-add-mod' place N }

-- the code of a place
pub code_of : (n t lead code place : ℕ) (names : List ℕ) → Proper n t lead names → place_of n t code names ≡ place → code ≡ place / per_order n t
code_of n t lead code place names p is = sym (digits_back code (within n names) (per_order n t) (within_all n t lead names p)).0 ∙ ap (λ z. z / per_order n t) is

-- no two chains share a place
module _ (n t lead : ℕ) (a b : List ℕ) (p : Proper n t lead a) (q : Proper n t lead b) where
  same_length : within n a ≡ within n b → length a ≡ length b
  same_length is =
      let la = within_low n t lead a p in
      let ha = within_high n t lead a p in
      let lb = within_low n t lead b q in
      let hb = within_high n t lead b q in
      ⊎_elim
      (λ less. absurd (let g = shorter_grows (n - 1) (length a) (length b - 1) (omega arith) in omega arith))
      (λ ge. ⊎_elim (λ more. absurd (let g = shorter_grows (n - 1) (length b) (length a - 1) (omega arith) in omega arith)) (λ le. omega arith) (cases_lt (length b) (length a)))
      (cases_lt (length a) (length b))

  pub same_names : within n a ≡ within n b → a ≡ b
  same_names is =
      let new = new_names n lead (lead_low n t lead a p) in
      let i = ap length p.split in
      let j = ap length q.split in
      let l = same_length is in
      let long : length p.others ≡ length q.others = omega arith in
      let first = ap (shorter (n - 1)) long in
      let u = within_is n t lead a p in
      let v = within_is n t lead b q in
      let ranks : rank (n - 1) (lead ∷ []) p.others ≡ rank (n - 1) (lead ∷ []) q.others = omega arith in
      let back = sym (spelled_rank n (n - 1) (lead ∷ []) p.others new (others_good n t lead a p)) ∙ (λ k. spelled n (n - 1) (lead ∷ []) (long k) (ranks k)) ∙ spelled_rank n (n - 1) (lead ∷ []) q.others new (others_good n t lead b q) in
      p.split ∙ ap (λ l. lead ∷ l) back ∙ sym q.split

  pub apart : (c d : ℕ) → place_of n t c a ≡ place_of n t d b → (c ≡ d) × (a ≡ b)
  apart c d is =
      let e = digit_unique c (within n a) d (within n b) (per_order n t) (within_all n t lead a p) (within_all n t lead b q) is in
      (e.0, same_names e.1)

pub places : (n t lead : ℕ) → Places n t lead
places n t lead = record {
  ordered = λ c d a b p q. ordered n t lead a b p q c d;
  apart = λ c d a b p q. apart n t lead a b p q c d;
  from = λ c a p. let w = within_low n t lead a p in omega arith;
  to = λ c a p. let w = within_high n t lead a p in omega arith;
  onto = onto n t lead;
}

-- the places of one code and one number of names
pub spans : (n t lead code count : ℕ) → 1 ≤ count → count ≤ t + 1 → Spans n t lead code count (code * per_order n t + shorter (n - 1) (count - 1)) (code * per_order n t + shorter (n - 1) count)
spans n t lead code count some few = record { inside = inside; only = only }
  where
    inside : (a : List ℕ) → Proper n t lead a → length a ≡ count → (code * per_order n t + shorter (n - 1) (count - 1) ≤ place_of n t code a) × (place_of n t code a < code * per_order n t + shorter (n - 1) count)
    inside a p long =
        let low = within_low n t lead a p in
        let high = within_high n t lead a p in
        let g = shorter_grows (n - 1) (count - 1) (length a - 1) (omega arith) in
        let h = shorter_grows (n - 1) (length a) count (omega arith) in
        (omega arith, omega arith)

    only : (d : ℕ) (a : List ℕ) → Proper n t lead a → code * per_order n t + shorter (n - 1) (count - 1) ≤ place_of n t d a → place_of n t d a < code * per_order n t + shorter (n - 1) count → (d ≡ code) × (length a ≡ count)
    only d a p from to =
        let all = within_all n t lead a p in
        let low = within_low n t lead a p in
        let high = within_high n t lead a p in
        let end = shorter_grows (n - 1) count (t + 1) few in
        let same : d ≡ code =
        ⊎_elim
        (λ less. absurd (let m = below_product d (within n a) (per_order n t) code less all in omega arith))
        (λ ge. ⊎_elim (λ more. absurd (let m = mul-le-mul_right (per_order n t) more in let e = suc-mul code (per_order n t) in omega arith)) (λ le. omega arith) (cases_lt code d))
        (cases_lt d code) in
        let k = ap (λ z. z * per_order n t) same in (
          same,
          ⊎_elim
              (λ less. absurd (let g = shorter_grows (n - 1) (length a) (count - 1) (omega arith) in omega arith))
              (λ ge. ⊎_elim (λ more. absurd (let g = shorter_grows (n - 1) count (length a - 1) (omega arith) in omega arith)) (λ le. omega arith) (cases_lt count (length a)))
              (cases_lt (length a) count),
        )

pub spans_at : (n t lead code count start end : ℕ) → start ≡ code * per_order n t + shorter (n - 1) (count - 1) → end ≡ code * per_order n t + shorter (n - 1) count → 1 ≤ count → count ≤ t + 1 → Spans n t lead code count start end
spans_at n t lead code count start end from to some few =
    subst (λ x. Spans n t lead code count x end) (sym from) (subst (λ x. Spans n t lead code count (code * per_order n t + shorter (n - 1) (count - 1)) x) (sym to) (spans n t lead code count some few))

-- what fits into 32 bits
pub per_order_bound : (n t : ℕ) → n ≤ 12 → per_order n t ≤ 108505112
per_order_bound n t small = shorter_low (n - 1) (t + 1) (omega arith)

pub code_bound : (n t code codes : ℕ) → code < codes → codes ≤ 16 → n ≤ 12 → code * per_order n t ≤ 1736081792
code_bound n t code codes low few small =
    let s = shorter_low (n - 1) (t + 1) (omega arith) in
    let c : code ≤ 16 = omega arith in
    let m = mul-le-mul c s in
    omega arith

-- a chain taken apart, as the lead and the rest of the slice
pub put_together : (names : List ℕ) → 1 ≤ length names → get_or names 0 0 ∷ take (length names - 1) (drop 1 names) ≡ names
put_together [] some = absurd (omega arith)
put_together (x ∷ xs) some = ap (λ l. x ∷ l) (take_all (length (x ∷ xs) - 1) xs (omega arith))

module _ (n t lead : ℕ) (names : List ℕ) (p : Proper n t lead names) where
  pub some_names : 1 ≤ length names
  some_names = let l = ap length p.split in omega arith

  -- the lead and the others are the whole chain
  pub lead_and_rest : lead ∷ take (length names - 1) (drop 1 names) ≡ names
  lead_and_rest =
      let first : get_or names 0 0 ≡ lead = ap (λ l. get_or l 0 0) p.split in
      ap (λ z. z ∷ take (length names - 1) (drop 1 names)) (sym first) ∙ put_together names some_names

  pub taken_apart : Proper n t lead (lead ∷ take (length names - 1) (drop 1 names))
  taken_apart = subst (Proper n t lead) (sym lead_and_rest) p

  pub within_bound : n ≤ 12 → within n names ≤ 108505112
  within_bound few = let w = within_all n t lead names p in let s = shorter_low (n - 1) (t + 1) (omega arith) in omega arith

  pub place_below : (code codes : ℕ) → code < codes → place_of n t code names < codes * per_order n t
  place_below code codes low = below_product code (within n names) (per_order n t) codes low (within_all n t lead names p)

  pub place_bound : (code codes : ℕ) → code < codes → codes ≤ 16 → n ≤ 12 → place_of n t code names < 2 ^ 32
  place_bound code codes low few small =
      let b = place_below code codes low in
      let s = shorter_low (n - 1) (t + 1) (omega arith) in
      let m = mul-le-mul few s in
      omega arith
