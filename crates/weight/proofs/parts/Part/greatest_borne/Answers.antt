use Rattle.std.proofs.Common.{◌≡◌, ap, ◌∙◌, arith}
use Rattle.chain.proofs.Numbering.{per_order_bound}
use Rattle.chain.specs.NameSets.{in_set}
use Rattle.weight.specs.Cells.{taken_at}
use Rattle.weight.proofs.HeldChains.{held_proper, held_from, within_long}
use Rattle.weight.proofs.Searching.{start, bears_two, seconds_low, none_first, none_more, none_skip, one_less}
use Rattle.weight.proofs.parts.Part.greatest_borne.Goals as goal
use Rattle.weight.proofs.parts.Part.greatest_borne.Goals.{else-self-at-via-then-self-at+else-bears_at, else-self-at-via-else-self-at}

pub search-init : goal.search-init
search-init c = (start _ _ _ _ _ c.requires.backers c.args.self.now.chains.setting.most _ c.len-weight.ensures.value, omega arith)

pub loop-at-init : goal.loop-at-init
loop-at-init c = none_first _ _ _ _ _ _

pub overflow_cast-at : goal.overflow_cast-at
overflow_cast-at c =
    let few = c.args.self.now.few in
    let inside = c.loop-at-test.true in
    let bound = per_order_bound c.args.self.now.chains.setting.size c.args.self.now.chains.setting.tolerance c.args.self.now.chains.setting.most in
    record { fits = omega arith }

pub bears_at-requires : goal.bears_at-requires
bears_at-requires c =
    let few = c.args.self.now.few in
    let inside = c.loop-at-test.true in
    record { backers = seconds_low _ _ _ _ _ c.requires.backers; there = omega arith }

pub loop-at-preserved : goal.loop-at-preserved
loop-at-preserved c =
    let n = c.args.self.now.chains.setting.size in
    let t = c.args.self.now.chains.setting.tolerance in
    let lead = c.args.self.now.chains.lead in
    let part = c.args.self.now.cells.now in
    let S = in_set c.args.backers in
    elim c.else-self-at.branch [
      | else-self-at-via-then-self-at+else-bears_at w ↦ none_more n t lead part S c.search.weight c.loop-at.at (λ names held is bears. w.bears_at.ensures.none w.if-bears_at.false names (held_proper n t lead part names held) is bears) c.loop-at.invariant
      | else-self-at-via-else-self-at w ↦ none_skip n t lead part S c.search.weight c.loop-at.at w.if-self-at.false c.loop-at.invariant
    ]

pub search-preserved : goal.search-preserved
search-preserved c = (one_less _ _ _ _ _ _ c.loop-at.at c.loop-at-test.false c.loop-at.invariant c.search.invariant.0, omega arith)

pub returns-after-search : goal.returns-after-search
returns-after-search c =
    let end = c.search-test.false in
    let two : c.search.weight ≡ 2 = omega arith in
    record { reached = rw two (bears_two _ _ _ _ _ c.requires.backers c.requires.some.0 c.requires.some.1); most = c.search.invariant.0 }

pub returns-then-bears_at : goal.returns-then-bears_at
returns-then-bears_at c =
    let n = c.args.self.now.chains.setting.size in
    let t = c.args.self.now.chains.setting.tolerance in
    let lead = c.args.self.now.chains.lead in
    let part = c.args.self.now.cells.now in
    let found = c.bears_at.ensures.some c.if-bears_at.true in
    let past = c.loop-at.auto.at in
    let place = found.2 in
    record {
      reached =
          record {
            names = found.0;
            here = held_from n t lead part found.0 found.1 (ap (taken_at part) place ∙ c.if-self-at.true);
            long = within_long n t lead found.0 found.1 (omega arith);
            bears = found.3;
          };
      most = c.search.invariant.0;
    }
