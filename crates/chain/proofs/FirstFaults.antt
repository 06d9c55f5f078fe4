-- Names without a fault are those of a proper chain. Assumes nothing.
use Rattle.std.proofs.Common.{◌≡◌, ℕ, suc, ◌+◌, ◌<◌, ◌≤◌, true, false, not, ◌&&◌, eqb, ltb, leb, List, [], ◌∷◌, ◌++◌, length, Some, None, Option, sym, refl, ap, ◌∙◌, subst, ⊎_elim, arith}
use Rattle.std.proofs.lemmas.Bool.{cases_Bool, cond-true, cond-false, and_parts, and_from, and_left, and_right, and_cases, or_parts, or_left, or_right, or_from, or_cases, eqb-true, eqb-false, eq-eqb, leb-true, le-leb, ltb-true, lt-ltb, not-true, not-false, not_from_true, not_from_false, both_ways}
use Rattle.counting.specs.Lists.{has, distinct, below}
use Rattle.counting.proofs.Pushes.{has_push}
use Rattle.chain.specs.declared.refusals.Refusal.{Refusal}
use Rattle.chain.specs.declared.refusals.Refusal.TheVariants.{Length, Beyond, NotLead, Repeated}
use Rattle.chain.specs.Chains.{Proper}
use Rattle.std.specs.Option.{option_or}
use Rattle.chain.specs.Faults.{fault_of_name, first_fault, unfit}

pub some_none : {A : Type 0} (x : A) → ◌≡◌ {A = Option A} (Some x) None → ⊥
some_none x e = let z : ◌≡◌ {A = ℕ} 0 1 = cc in omega arith

-- one name without a fault
pub record Fine (n lead place : ℕ) (before : List ℕ) (name : ℕ) : Type 0 where
  pub low : name < n
  pub leads : place ≡ 1 → name ≡ lead
  pub new : has name before ≡ false

pub fine_from : (n lead place : ℕ) (before : List ℕ) (name : ℕ) → fault_of_name n lead place (has name before) name ≡ None → Fine n lead place before name
fine_from n lead place before name none =
    ⊎_elim
    (λ low.
    let a = sym (cond-true _ _ _ low) ∙ none in
    ⊎_elim
    (λ other. absurd (some_none NotLead (sym (cond-true _ _ _ other) ∙ a)))
    (λ leads.
    let b = sym (cond-false _ _ _ leads) ∙ a in
    ⊎_elim
    (λ seen. absurd (some_none (Repeated place) (sym (cond-true _ _ _ seen) ∙ b)))
    (λ new. record {
      low = ltb-true name n low;
      leads = λ first. ⊎_elim (λ later. absurd (eqb-false place 1 later first)) (λ is. eqb-true name lead (not-false _ is)) (and_cases (eqb place 1) (not (eqb name lead)) leads);
      new = new;
    })
    (cases_Bool (has name before)))
    (cases_Bool (eqb place 1 && not (eqb name lead))))
    (λ high. absurd (some_none (Beyond place) (sym (cond-false _ _ _ high) ∙ none)))
    (cases_Bool (ltb name n))

pub fine_none : (n lead place : ℕ) (before : List ℕ) (name : ℕ) → Fine n lead place before name → fault_of_name n lead place (has name before) name ≡ None
fine_none n lead place before name f =
    let leads : (eqb place 1 && not (eqb name lead)) ≡ false =
    ⊎_elim (λ first. and_right _ _ (not_from_true _ (eq-eqb name lead (f.leads (eqb-true place 1 first))))) (λ later. and_left _ _ later) (cases_Bool (eqb place 1)) in
    cond-true _ _ _ (lt-ltb name n f.low) ∙ cond-false _ _ _ leads ∙ cond-false _ _ _ f.new

-- the names after some others, without a fault
pub record Good (n : ℕ) (before xs : List ℕ) : Type 0 where
  pub low : below n xs ≡ true
  pub apart : distinct xs ≡ true
  pub new : (y : ℕ) → has y xs ≡ true → has y before ≡ false

-- what is new after one name more is new, and is not that name
push_parts : (before : List ℕ) (x y : ℕ) → has y (before ++ x ∷ []) ≡ false → (has y before ≡ false) × (y ≡ x → ⊥)
push_parts [] x y none = let h = or_parts (eqb y x) false none in (refl, eqb-false y x h.0)
push_parts (b ∷ bs) x y none =
    let h = or_parts (eqb y b) (has y (bs ++ x ∷ [])) none in
    let rest = push_parts bs x y h.1 in
    (or_from _ _ h.0 rest.0, rest.1)

option_or_none : (a b : Option Refusal) → option_or a b ≡ None → (a ≡ None) × (b ≡ None)
option_or_none None b e = (refl, e)
option_or_none (Some x) b e = absurd (some_none x e)

pub good_from : (n lead place : ℕ) (before xs : List ℕ) → first_fault n lead place before xs ≡ None → Good n before xs
good_from n lead place before [] none = record { low = refl; apart = refl; new = λ y is. absurd (both_ways false refl is) }
good_from n lead place before (x ∷ xs) none =
    let p = option_or_none (fault_of_name n lead place (has x before) x) _ none in
    let f = fine_from n lead place before x p.0 in
    let g = good_from n lead (suc place) (before ++ x ∷ []) xs p.1 in
    let once : has x xs ≡ false = ⊎_elim (λ twice. absurd ((push_parts before x x (g.new x twice)).1 refl)) (λ out. out) (cases_Bool (has x xs)) in
    record {
      low = and_from _ _ (lt-ltb x n f.low) g.low;
      apart = and_from _ _ (not_from_false _ once) g.apart;
      new = λ y is. ⊎_elim (λ here. subst (λ z. has z before ≡ false) (sym (eqb-true y x here)) f.new) (λ later. (push_parts before x y (g.new y later)).0) (or_cases (eqb y x) (has y xs) is);
    }

pub good_none : (n lead place : ℕ) (before xs : List ℕ) → Good n before xs → ((x : ℕ) (ys : List ℕ) → xs ≡ x ∷ ys → place ≡ 1 → x ≡ lead) → 1 ≤ place → first_fault n lead place before xs ≡ None
good_none n lead place before [] g leads from = refl
good_none n lead place before (x ∷ xs) g leads from =
    let a = and_parts (not (has x xs)) (distinct xs) g.apart in
    let b = and_parts (ltb x n) (below n xs) g.low in
    let f = fine_none n lead place before x (record { low = ltb-true x n b.0; leads = leads x xs refl; new = g.new x (or_left _ _ (eq-eqb x x refl)) }) in
    let rest : Good n (before ++ x ∷ []) xs = record {
      low = b.1;
      apart = a.1;
      new = λ y is. has_push before x y (g.new y (or_right _ _ is)) (λ e. both_ways (has x xs) (not-true _ a.0) (subst (λ z. has z xs ≡ true) e is));
    } in
    ap (λ o. option_or o (first_fault n lead (suc place) (before ++ x ∷ []) xs)) f ∙ good_none n lead (suc place) (before ++ x ∷ []) xs rest (λ y ys e first. absurd (omega arith)) (omega arith)

-- both together
pub unfit_proper : (n t lead : ℕ) (names : List ℕ) → unfit n t lead names ≡ None → Proper n t lead names
unfit_proper n t lead [] none = absurd (some_none Length none)
unfit_proper n t lead (x ∷ xs) none =
    ⊎_elim
    (λ long.
    let first = sym (cond-true _ _ _ long) ∙ none in
    let g = good_from n lead 1 [] (x ∷ xs) first in
    let f = fine_from n lead 1 [] x (option_or_none (fault_of_name n lead 1 (has x []) x) _ first).0 in
    record {
      others = xs;
      split = ap (λ y. y ∷ xs) (f.leads refl);
      short = leb-true (length (x ∷ xs)) (t + 1) (and_parts (leb 1 (length (x ∷ xs))) _ long).1;
      within = g.low;
      apart = g.apart;
    })
    (λ short. absurd (some_none Length (sym (cond-false _ _ _ short) ∙ none)))
    (cases_Bool (leb 1 (length (x ∷ xs)) && leb (length (x ∷ xs)) (t + 1)))

pub proper_unfit : (n t lead : ℕ) (names : List ℕ) → Proper n t lead names → unfit n t lead names ≡ None
proper_unfit n t lead names p =
    let some : 1 ≤ length names = let l = ap length p.split in omega arith in
    let g : Good n [] names = record { low = p.within; apart = p.apart; new = λ y _. refl } in
    cond-true _ _ _ (and_from _ _ (le-leb 1 (length names) some) (le-leb (length names) (t + 1) p.short)) ∙ good_none n lead 1 [] names g (λ x ys e _. let is = sym e ∙ p.split in cc) (omega arith)

-- what the check answers
module _ (n t lead : ℕ) (names : List ℕ) (some : 1 ≤ length names) (few : length names ≤ t + 1) where
  unfit_is : unfit n t lead names ≡ first_fault n lead 1 [] names
  unfit_is = cond-true _ _ _ (and_from _ _ (le-leb 1 (length names) some) (le-leb (length names) (t + 1) few))

  pub refuses : (e : Refusal) → first_fault n lead 1 [] names ≡ Some e → (unfit n t lead names ≡ Some e) × (Proper n t lead names → ⊥)
  refuses e is = (unfit_is ∙ is, λ p. some_none e (sym (unfit_is ∙ is) ∙ proper_unfit n t lead names p))

  pub accepts : first_fault n lead 1 [] names ≡ None → (unfit n t lead names ≡ None) × Proper n t lead names
  accepts is = (unfit_is ∙ is, unfit_proper n t lead names (unfit_is ∙ is))
