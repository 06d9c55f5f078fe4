-- The weight of an order over all cells, from what was found in the cells of that order. Assumes nothing.
use Rattle.std.proofs.Common.{◌≡◌, ℕ, ◌+◌, ◌*◌, ◌<◌, ◌≤◌, Bool, true, false, List, [], ◌∷◌, length, sym, refl, ◌∙◌, subst, inl, inr, arith}
use mathlib.Core.Path.{fun_ext}
use Rattle.std.proofs.lemmas.Bool.{true≢false, and_left, le-ltb}
use Rattle.chain.specs.declared.chains.Chains.{Chains}
use Rattle.chain.specs.OfRing.{many}
use Rattle.weight.specs.declared.cells.Cell.{Cell}
use Rattle.weight.specs.declared.parts.Part.{Part}
use Rattle.weight.specs.Cells.{taken_at, held_in, held_of, holds, holds_of}
use Rattle.weight.specs.Weights.{Seconds, Borne, Weight}
use Rattle.weight.proofs.HeldChains.{held_same}

-- nothing is held of a code that no kind has
pub no_order : (n t lead : ℕ) (cells : List Cell) (code : ℕ) → 16 ≤ code → Weight n t (holds n t lead cells code) 0
no_order n t lead cells code past =
    record {
      S = λ _. false;
      seconds = record { each = λ l q rest held. absurd (true≢false (sym held ∙ none (l ∷ q ∷ rest))); only = λ q on. absurd (true≢false (sym on)) };
      reached = inl (refl, λ names held. absurd (true≢false (sym held ∙ none names)));
      most = λ v borne. absurd (true≢false (sym borne.here ∙ none borne.names));
    }
  where
    none : (names : List ℕ) → holds n t lead cells code names ≡ false
    none names = and_left _ _ (le-ltb code 16 past)

module _ (n t lead : ℕ) (part : List Cell) (S : ℕ → Bool) (s : Seconds (held_in n t lead part) S) where
  -- without second names there is no chain of two names or more
  pub weighs_nothing : ((q : ℕ) → S q ≡ false) → Weight n t (held_in n t lead part) 0
  weighs_nothing empty =
      record {
        S = S;
        seconds = s;
        reached = inl (refl, short);
        most = λ v borne. let few = short borne.names borne.here in let long = borne.long in absurd (omega arith);
      }
    where
      short : (names : List ℕ) → held_in n t lead part names ≡ true → length names < 2
      short [] held = omega arith
      short (l ∷ []) held = omega arith
      short (l ∷ q ∷ rest) held = absurd (true≢false (sym (s.each l q rest held) ∙ empty q))

  pub weighs_held : (w : ℕ) → Borne n t (held_in n t lead part) S w → ((v : ℕ) → Borne n t (held_in n t lead part) S v → v ≤ w) → Weight n t (held_in n t lead part) w
  weighs_held w reached most = record { S = S; seconds = s; reached = inr reached; most = most }

-- the part of an order has its chains
pub among_all : (chains : Chains) (part : Part) (cells : List Cell) (code w : ℕ) → part.chains ≡ chains → code < 16 → ((k : ℕ) → k < many chains.setting → taken_at part.cells.now k ≡ taken_at cells (code * many chains.setting + k))
    → Weight part.chains.setting.size part.chains.setting.tolerance (held_of part.chains part.cells.now) w → Weight chains.setting.size chains.setting.tolerance (holds_of chains cells code) w
among_all chains part cells code w mine low same weighs =
    subst (λ held. Weight chains.setting.size chains.setting.tolerance held w)
    (fun_ext (held_same chains.setting.size chains.setting.tolerance chains.lead code cells part.cells.now low same))
    (subst (λ (c : Chains). Weight c.setting.size c.setting.tolerance (held_of c part.cells.now) w) mine weighs)
