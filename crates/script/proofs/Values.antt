-- Digits, as chains over a text test them and sum them up. Assumes nothing.
use Rattle.std.proofs.Common.{◌≡◌, ℕ, ◌<◌, ◌≤◌, Bool, true, false, ◌&&◌, eqb, leb, List, [], ◌∷◌, length, Some, None, Option, MatchOption, sym, refl, ap, ◌∙◌, subst, ⊎_elim, arith}
use Rattle.std.specs.Fn.{Called}
use Rattle.std.specs.Iterator.{AlwaysYields, YieldsThen}
use Rattle.std.specs.List.{FoldsTo, list_all}
use Rattle.std.specs.Str.{all_ascii_digits}
use Rattle.std.specs.Char.{is_ascii_digit}
use denote.Param.Members.{Mut}
use Rattle.std.proofs.lemmas.Bool.{cond-true, cond-false, le-leb, lt-leb, leb-true, cases_lt}
use Rattle.std.proofs.lemmas.Bool.Decides.{nat_tests}
use Rattle.std.proofs.lemmas.Iterator.{YieldsList}
use Rattle.std.proofs.lemmas.Option.{cond_some}
use Rattle.script.specs.Numerals.{numeral, plain, one_more, valued, largest, within, read}

all_digits : (bs : List ℕ) → list_all is_ascii_digit bs ≡ all_ascii_digits bs
all_digits [] = refl
all_digits (b ∷ bs) = ap (λ r. is_ascii_digit b && r) (all_digits bs)

-- a text that is not empty is digits alone, as the code tests it
pub digits_alone : {r : Bool} (bs : List ℕ) → eqb (length bs) 0 ≡ false → r ≡ list_all is_ascii_digit bs → r ≡ numeral bs
digits_alone bs some is = let digits = is ∙ all_digits bs in grind (arith, nat_tests)

within_some : (n m : ℕ) → within n ≡ Some m → (n ≡ m) × (n ≤ largest)
within_some n m is = let p = cond_some (leb n largest) n m is in (p.1, leb-true n largest p.0)

within_none : (n : ℕ) → within n ≡ None → largest < n
within_none n is =
    ⊎_elim (λ high. high)
    (λ low. let some = sym (cond-true _ _ _ (le-leb n largest low)) ∙ is in cc)
    (cases_lt largest n)

-- more digits never make a number smaller
valued_least : (n : ℕ) (ds : List ℕ) → n ≤ valued n ds
valued_least n [] = omega arith
valued_least n (d ∷ ds) = omega (arith, valued_least (one_more n d) ds)

too_large : (n : ℕ) (ds : List ℕ) → largest < n → None ≡ within (valued n ds)
too_large n ds high = let least = valued_least n ds in sym (cond-false _ _ _ (lt-leb (valued n ds) largest (omega arith)))

-- a turn of the fold that goes on, and what it gave where the items ended at o
module _ {A F : Type 0} (g : Mut F (ℕ × (A × Unit {0})) (Option ℕ)) where
  abbrev Turn : F × ℕ → A → F × ℕ → Type 0
  Turn p x q = (w : Option ℕ) × Called g p.0 (p.1, (x, tt)) w q.0 × (w ≡ Some q.1)

  abbrev Ends : Type 0 → Option ℕ → F → ℕ → Option A → Type 0
  Ends E r j m o = MatchOption o (r ≡ Some m) (λ x. (w : Option ℕ) × (h : F) × (e : E) × Called g j (m, (x, tt)) w h × (w ≡ None) × (r ≡ None))

-- each call sums up one item's byte
module _ {S A F : Type 0} (steps : S → Option A → S → Type 0) (byte : A → ℕ) (g : Mut F (ℕ × (A × Unit {0})) (Option ℕ)) (f : F)
    (calls : (n : ℕ) (x : A) (w : Option ℕ) (q : F) → Called g f (n, (x, tt)) w q → (q ≡ f) × (w ≡ within (one_more n (byte x)))) where
  folded : (E : Type 0) (digits : List ℕ) (s u : S) (n : ℕ) (r : Option ℕ) (xs : List A) (o : Option A) (j : F) (m : ℕ) → AlwaysYields steps byte s digits → YieldsThen steps s xs o u → FoldsTo {P = F × ℕ} (Turn g) (f, n) xs (j, m) → Ends g E r j m o → n ≤ largest → r ≡ within (valued n digits)
  folded E [] s u n r [] None j m all y turns ends low =
      ends ∙ ap Some (sym (ap (λ p. p.1) turns)) ∙ sym (cond-true _ _ _ (le-leb n largest low))
  folded E (d ∷ ds) s u n r [] None j m all y turns ends low = absurd (all.0 u (subst (λ t. steps t None u) (sym y.1) y.2))
  folded E [] s u n r [] (Some x) j m all y turns ends low = absurd (all x u (subst (λ t. steps t (Some x) u) (sym y.1) y.2))
  folded E (d ∷ ds) s u n r [] (Some x) j m all y turns ends low =
      let is = (all.1 x u (subst (λ t. steps t (Some x) u) (sym y.1) y.2)).0 in
      let call : Called g f (n, (x, tt)) ends.0 ends.1 = subst (λ (p : F × ℕ). Called g p.0 (p.1, (x, tt)) ends.0 ends.1) (sym turns) ends.3 in
      let none = sym (calls n x ends.0 ends.1 call).1 ∙ ends.4 in
      ends.5 ∙ too_large (one_more n d) ds (subst (λ b. largest < one_more n b) is (within_none _ none))
  folded E [] s u n r (x ∷ xs) o j m all y turns ends low = absurd (all x y.1.0 y.1.1)
  folded E (d ∷ ds) s u n r (x ∷ xs) o j m all y turns ends low =
      let next = all.1 x y.1.0 y.1.1 in
      let call = calls n x turns.1.0 turns.0.0 turns.1.1 in
      let sum = within_some (one_more n (byte x)) turns.0.1 (sym call.1 ∙ turns.1.2) in
      let p : turns.0 ≡ (f, one_more n d) = (λ k. (call.0 k, (sym sum.0 ∙ ap (one_more n) next.0) k)) in
      folded E ds y.1.0 u (one_more n d) r xs o j m next.1 (y.0, y.1.2, y.2) (subst (λ (q : F × ℕ). FoldsTo {P = F × ℕ} (Turn g) q xs (j, m)) p turns.2) ends (subst (λ b. one_more n b ≤ largest) next.0 sum.1)

-- `r` is what the fold gave, by its clause `ran`
pub sum_folded : {S A F E : Type 0} {steps : S → Option A → S → Type 0} {byte : A → ℕ} {g : Mut F (ℕ × (A × Unit {0})) (Option ℕ)} {s : S} {digits : List ℕ} (u : S) (f : F) (r : Option ℕ) → (xs : List A) × (o : Option A) × (j : F) × (m : ℕ) × YieldsThen steps s xs o u × FoldsTo {P = F × ℕ} (λ p x q. (w : Option ℕ) × Called g p.0 (p.1, (x, tt)) w q.0 × (w ≡ Some q.1)) (f, 0) xs (j, m) × MatchOption o (r ≡ Some m) (λ x. (w : Option ℕ) × (h : F) × (e : E) × Called g j (m, (x, tt)) w h × (w ≡ None) × (r ≡ None)) → YieldsList steps byte s digits → ((n : ℕ) (x : A) (w : Option ℕ) (q : F) → Called g f (n, (x, tt)) w q → (q ≡ f) × (w ≡ within (one_more n (byte x)))) → r ≡ within (valued 0 digits)
sum_folded {E = E} {steps = steps} {byte = byte} {g = g} {s = s} {digits = digits} u f r h y calls =
    folded steps byte g f calls E digits s u 0 r h.0 h.1 h.2 h.3 y.runs h.4 h.5 h.6 (omega arith)

pub read_plain : (ds : List ℕ) → plain ds ≡ true → within (valued 0 ds) ≡ read ds
read_plain ds is = rw is refl
