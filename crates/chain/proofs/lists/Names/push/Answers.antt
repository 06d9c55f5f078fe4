use Rattle.std.proofs.Common.{◌≡◌, ◌+◌, ◌-◌, ◌<◌, length-take-le, drop, replicate, ap, sym, ◌∙◌, length-set, arith}
use Rattle.std.proofs.lemmas.List.{drop-drop, drop-set-lt, drop-replicate}
use Rattle.chain.proofs.lists.Names.push.Goals as goal

pub invariant_of-self : goal.invariant_of-self
invariant_of-self c =
    let s = c.args.self.now in
    let n = s.count in
    let long = length-take-le n s.list (omega (arith, s.few, s.full)) in
    let room : n < 12 = omega (arith, c.requires, long) in
    let less : 12 - n - 1 ≡ 12 - (n + 1) = omega arith in
    let zeros : drop (n + 1) s.list ≡ replicate (12 - (n + 1)) 0 = sym (drop-drop 1 n s.list) ∙ ap (drop 1) s.zeros ∙ drop-replicate 1 (12 - n) 0 ∙ ap (λ k. replicate k 0) less in
    record {
      few = omega arith;
      full = length-set s.list n c.args.name ∙ s.full;
      zeros = drop-set-lt (n + 1) s.list n c.args.name (omega arith) ∙ zeros;
    }
