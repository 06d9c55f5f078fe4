-- One piece after the other. Assumes nothing.
use Rattle.std.proofs.Common.{◌≡◌, ℕ, ◌+◌, ◌-◌, ◌^◌, min, eqb, List, [], ◌∷◌, ◌++◌, vec_items, sym, refl, ap, ◌∙◌, ⊎_elim, append_assoc, arith}
use Rattle.std.proofs.lemmas.Bool.{cases_Bool, eq-eqb, ne_eqb}
use Rattle.script.specs.declared.sessions.Session.{Session}
use Rattle.script.specs.Listing.{line_text, line_feeds, counted, kept_with}
use Rattle.script.specs.Sessions.{due, Moved}

module _ (s s' : Session) (w w' : List ℕ) (b : ℕ) where
  pub ended : b ≡ 10 → (w' ≡ w ++ line_text s.read (vec_items s.kept)) × (vec_items s'.kept ≡ []) × (s'.read ≡ counted s.read) × (s'.number ≡ min (2 ^ 64 - 1) (s.number + 1)) → Moved s w (b ∷ []) s' w'
  ended is h =
      let e = eq-eqb b 10 is in
      record {
        writes = λ later. rw (h.0, h.1, h.2, e) (append_assoc w _ _);
        counts = rw e h.3;
      }

  pub kept : (b ≡ 10 → ⊥) → w' ≡ w → (vec_items s'.kept ≡ kept_with (vec_items s.kept) b) × (s'.read ≡ counted s.read) × (s'.number ≡ s.number) → Moved s w (b ∷ []) s' w'
  kept other same h =
      let e = ne_eqb b 10 other in
      record {
        writes = λ later. rw (same, h.0, h.1, e) refl;
        counts = rw (e, h.2) (omega (arith, s.numbered));
      }

pub moved_none : (s : Session) (w : List ℕ) → Moved s w [] s w
moved_none s w = record { writes = λ later. refl; counts = omega (arith, s.numbered) }

feeds-append : (xs ys : List ℕ) → line_feeds (xs ++ ys) ≡ line_feeds xs + line_feeds ys
feeds-append [] ys = omega arith
feeds-append (x ∷ xs) ys =
    ⊎_elim (λ e. rw e (omega (arith, feeds-append xs ys))) (λ e. rw e (feeds-append xs ys)) (cases_Bool (eqb x 10))

pub moved_more : (s s₁ s₂ : Session) (w w₁ w₂ p q : List ℕ) → Moved s w p s₁ w₁ → Moved s₁ w₁ q s₂ w₂ → Moved s w (p ++ q) s₂ w₂
moved_more s s₁ s₂ w w₁ w₂ p q m n =
    record {
      writes = λ later. n.writes later ∙ m.writes (q ++ later) ∙ ap (λ l. w ++ due s l) (sym (append_assoc p q later));
      counts = let sum = feeds-append p q in let a = m.counts in let d = n.counts in omega arith;
    }
