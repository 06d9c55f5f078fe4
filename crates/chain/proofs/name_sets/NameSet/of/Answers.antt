use Rattle.chain.proofs.NameSets.{next_in}
use Rattle.chain.proofs.name_sets.NameSet.of.Goals as goal

pub loop-name-preserved : goal.loop-name-preserved
loop-name-preserved c = next_in c.args.names.now c.loop-name.name-index c.loop-name.set c.insert.new.self c.loop-name-test.true c.loop-name.invariant c.insert.ensures.put c.insert.ensures.high
