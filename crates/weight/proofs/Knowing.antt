-- What a switch knows of orders, code by code. Assumes nothing.
--   KnownBelow   what is known of the orders whose codes are below `code`
use Rattle.std.proofs.Common.{◌≡◌, ℕ, ◌+◌, ◌*◌, ◌<◌, ◌≤◌, Bool, true, false, ◌&&◌, ltb, List, length, sym, refl, ap, ◌∙◌, ⊎_elim, arith}
use Rattle.std.proofs.lemmas.Nat.{div-mul-add}
use Rattle.std.proofs.lemmas.Bool.{true≢false, cases_Bool, cases_lt, and_parts, and_from, lt-ltb}
use Rattle.chain.specs.Chains.{is_proper}
use Rattle.chain.specs.Places.{per_order, place_of, within}
use Rattle.chain.proofs.Numbering.{onto, within_all}
use Rattle.chain.proofs.ProperChains.{proper_from, proper_test}
use Rattle.weight.specs.declared.cells.Cell.{Cell}
use Rattle.weight.specs.declared.knowns.Known.{Known}
use Rattle.weight.specs.declared.knowns.Known.TheVariants.{Nothing, Sole, Several}
use Rattle.weight.specs.Cells.{taken_at, holds, Two}
use Rattle.weight.proofs.TakenCells.{taken_past}

abbrev pub KnownBelow : (ℕ → List ℕ → Bool) → ℕ → Known → Type 0
KnownBelow held code Nothing = (m : ℕ) (names : List ℕ) → m < code → held m names ≡ false
KnownBelow held code (Sole one) = (one < code) × ((names : List ℕ) × (held one names ≡ true)) × ((m : ℕ) (names : List ℕ) → m < code → held m names ≡ true → m ≡ one)
KnownBelow held code Several = Two held

module _ (n t lead : ℕ) (cells : List Cell) where
  -- what the cells of one code say
  module _ (code : ℕ) (part : List Cell) (low : code < 16) (few : length part ≤ per_order n t) (same : (k : ℕ) → k < per_order n t → taken_at part k ≡ taken_at cells (code * per_order n t + k)) where
    -- a taken cell is that of a chain
    pub some_held : lead < n → (i : ℕ) → taken_at part i ≡ true → (names : List ℕ) × (holds n t lead cells code names ≡ true)
    some_held leads i on =
        let inside : i < length part = ⊎_elim (λ in_it. in_it) (λ past. absurd (true≢false (sym on ∙ taken_past part i past))) (cases_lt i (length part)) in
        let N = per_order n t in
        let chain = onto n t lead (code * N + i) leads in
        let is : place_of n t code chain.names ≡ code * N + i = ap (λ c. place_of n t c chain.names) (sym (div-mul-add code N i (omega arith))) ∙ chain.there in
        (chain.names, and_from _ _ (lt-ltb code 16 low) (and_from _ _ (proper_test n t lead chain.names chain.proper) (ap (taken_at cells) is ∙ sym (same i (omega arith)) ∙ on)))

    pub none_held : ((i : ℕ) → taken_at part i ≡ false) → (names : List ℕ) → holds n t lead cells code names ≡ false
    none_held none names =
        ⊎_elim
        (λ on.
        let a = and_parts (ltb code 16) (is_proper n t lead names && taken_at cells (place_of n t code names)) on in
        let b = and_parts (is_proper n t lead names) (taken_at cells (place_of n t code names)) a.1 in
        let inside = within_all n t lead names (proper_from n t lead names b.0) in
        absurd (true≢false (sym b.1 ∙ sym (same (within n names) inside) ∙ none (within n names))))
        (λ off. off)
        (cases_Bool (holds n t lead cells code names))

-- one code more
module _ (held : ℕ → List ℕ → Bool) (code : ℕ) where
  pub nothing_new : (known : Known) → ((names : List ℕ) → held code names ≡ false) → KnownBelow held code known → KnownBelow held (code + 1) known
  nothing_new Nothing none k = λ m names low. ⊎_elim (λ less. k m names less) (λ ge. let e : m ≡ code = omega arith in ap (λ c. held c names) e ∙ none names) (cases_lt m code)
  nothing_new (Sole one) none k =
      let small = k.0 in
      (omega arith, k.1, λ m names low on. ⊎_elim (λ less. k.2 m names less on) (λ ge. let e : m ≡ code = omega arith in absurd (true≢false (sym on ∙ ap (λ c. held c names) e ∙ none names))) (cases_lt m code))
  nothing_new Several none k = k

  pub first_known : (names : List ℕ) → held code names ≡ true → KnownBelow held code Nothing → KnownBelow held (code + 1) (Sole code)
  first_known names here k = (omega arith, (names, here), λ m other low on. ⊎_elim (λ less. absurd (true≢false (sym on ∙ k m other less))) (λ ge. omega arith) (cases_lt m code))

  pub two_known : (known : Known) → (known ≡ Nothing → ⊥) → (names : List ℕ) → held code names ≡ true → KnownBelow held code known → Two held
  two_known Nothing some names here k = absurd (some refl)
  two_known (Sole one) some names here k = let small = k.0 in record { m = one; m' = code; apart = λ e. omega arith; names = k.1.0; names' = names; here = k.1.1; here' = here }
  two_known Several some names here k = k
