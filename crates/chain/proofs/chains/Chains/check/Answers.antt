use Rattle.std.proofs.Common.{rules, ◌+◌, ◌≤◌, length}
use Rattle.std.proofs.lemmas.Result.{err_from_is_err_and}
use Rattle.chain.proofs.FirstFaults.{refuses, accepts}
use Rattle.chain.proofs.ProperChains.{grows}
use Rattle.chain.proofs.Seen.{fault_here, one_more, scanned_all}
use Rattle.chain.proofs.chains.Chains.check.Goals as goal
use Rattle.chain.proofs.chains.Chains.check.Goals.{At-loop-i}

-- there are 1 to t + 1 names
inside : (c : At-loop-i) → (1 ≤ length c.args.names.now) × (length c.args.names.now ≤ c.args.self.now.setting.tolerance + 1)
inside c = search rules

pub returns-in_err-check_name : goal.returns-in_err-check_name
returns-in_err-check_name c =
    let p = err_from_is_err_and c.from_residual.result c.from_residual.ensures.1 in
    let at = (goal.at.returns-in_err-check_name c).At-loop-i in
    let told = refuses _ _ _ _ (inside at).0 (inside at).1 c.in_err-check_name.field-0.0 (fault_here _ _ _ _ _ c.loop-i.invariant c.loop-i-test.true _ c.in_err-check_name.ensures) in
    rw (p.1, p.2) (record { value = told.0; proper = told.1; grows = tt })

pub loop-i-preserved : goal.loop-i-preserved
loop-i-preserved c = one_more _ _ _ _ _ c.loop-i.invariant c.loop-i-test.true _ c.in_ok-check_name.ensures c.args.self.now.setting.most (λ _. c.add.ensures)

pub returns : goal.returns
returns c =
    let at = (goal.at.returns c).At-loop-i in
    let told = accepts _ _ _ _ (inside at).0 (inside at).1 (scanned_all _ _ _ _ _ c.loop-i.invariant c.loop-i-test.false) in
    record { value = told.0; proper = told.1; grows = grows _ _ _ _ told.1 }
