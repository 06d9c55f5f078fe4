-- A refusal has the number of the first rule that is broken. Assumes nothing.
use Rattle.std.proofs.Common.{◌≡◌, ℕ, ◌-◌, true, false, cond, ltb, leb, IfErr, Some, None, Ok, Err, Result, sym, subst, inl, inr, ⊎_elim, arith}
use Rattle.std.proofs.lemmas.Bool.{cond_both, and_parts, and_cases, leb-true, leb-false, ltb-true, ltb-false}
use Rattle.setting.specs.declared.refusals.Refusal.{Refusal}
use Rattle.setting.specs.declared.refusals.Refusal.TheVariants.{Size, Tolerance, SoundCount}
use Rattle.setting.specs.Quotes.{quoted, counted, possible, round, Breaks, size, tolerance, sound}
use Rattle.setting.specs.Refused.{numbered, placed}
use Rattle.setting.specs.Settings.{sized, tolerates}

abbrev Told : (n t c : ℕ) → Result ℕ Refusal → Type 0
Told n t c r = IfErr r (λ e. Breaks n t c (numbered e) (placed e))

module _ (n t c : ℕ) where
  by_size : sized n ≡ false → Breaks n t c 21 0
  by_size e =
      size (⊎_elim (λ low. inl (leb-false 2 n low)) (λ high. inr (leb-false n 12 high)) (and_cases (leb 2 n) (leb n 12) e))

  by_tolerance : sized n ≡ true → tolerates n t ≡ false → Breaks n t c 22 0
  by_tolerance s e =
      let b = and_parts (leb 2 n) (leb n 12) s in
      tolerance (leb-true 2 n b.0) (leb-true n 12 b.1)
      (⊎_elim (λ low. inl (leb-false 1 t low)) (λ high. inr (ltb-false t n high)) (and_cases (leb 1 t) (ltb t n) e))

  by_sound : sized n ≡ true → tolerates n t ≡ true → possible n t c ≡ false → Breaks n t c 14 0
  by_sound s f e =
      let b = and_parts (leb 2 n) (leb n 12) s in
      let d = and_parts (leb 1 t) (ltb t n) f in
      let below = ltb-true t n d.1 in
      sound (leb-true 2 n b.0) (leb-true n 12 b.1) (leb-true 1 t d.0) below
      (⊎_elim (λ low. inl (omega (arith, leb-false (n - t) c low))) (λ high. inr (leb-false c n high)) (and_cases (leb (n - t) c) (leb c n) e))

  pub told : (r : Result ℕ Refusal) → r ≡ quoted n t c → Told n t c r
  told r e =
      subst (Told n t c) (sym e)
      (cond_both (sized n) (cond (tolerates n t) None (Some Tolerance)) (Some Size) (λ u. Told n t c (counted n t c u))
      (λ s.
      cond_both (tolerates n t) None (Some Tolerance) (λ u. Told n t c (counted n t c u))
      (λ f. cond_both (possible n t c) (Ok (round t c)) (Err SoundCount) (Told n t c) (λ _. tt) (by_sound s f))
      (by_tolerance s))
      by_size)
