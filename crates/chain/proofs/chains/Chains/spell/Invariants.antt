use Rattle.chain.specs.NameLists.{names_of}
use Rattle.chain.proofs.Spelling.{Spelling}
use Rattle.chain.proofs.chains.Chains.spell.Given as goal

abbrev pub invariant-loop : goal.invariant-loop
invariant-loop l = Spelling l.size l.self.lead l.fn.among.others l.fn.among.rank l.counter (names_of l.names) l.seen l.free l.ways l.rank
