-- The names that a value keeps make the value. Assumes nothing.
use Rattle.std.proofs.Common.{◌≡◌, ◌-◌, ◌≤◌, ◌++◌, length, drop, replicate, take-append-drop, length-take-le, sym, ap, ◌∙◌, arith}
use Rattle.std.proofs.Props.{props}
use mathlib.Core.HLevel.{is_prop→PathP}
use Rattle.chain.specs.declared.lists.Names.{Names}
use Rattle.chain.specs.NameLists.{names_of}

count_is : (s : Names) → length (names_of s) ≡ s.count
count_is s = length-take-le s.count s.list (omega (arith, s.few, s.full))

pub same_value : (s t : Names) → names_of s ≡ names_of t → s ≡ t
same_value s t is =
    let count : s.count ≡ t.count = sym (count_is s) ∙ ap length is ∙ count_is t in
    let rest : drop s.count s.list ≡ drop t.count t.list = s.zeros ∙ ap (λ k. replicate (12 - k) 0) count ∙ sym t.zeros in
    let list : s.list ≡ t.list = sym (take-append-drop s.count s.list) ∙ (λ i. is i ++ rest i) ∙ take-append-drop t.count t.list in
    λ i. record {
      list = list i;
      count = count i;
      few = is_prop→PathP (λ j. count j ≤ 12) (λ j. hlevel props) s.few t.few i;
      full = is_prop→PathP (λ j. length (list j) ≡ 12) (λ j. hlevel props) s.full t.full i;
      zeros = is_prop→PathP (λ j. drop (count j) (list j) ≡ replicate (12 - count j) 0) (λ j. hlevel props) s.zeros t.zeros i;
    }
