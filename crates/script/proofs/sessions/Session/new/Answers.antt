use Rattle.std.proofs.Common.{rules}
use Rattle.script.proofs.Listings.{all_listed}
use Rattle.script.proofs.sessions.Session.new.Goals as goal

pub returns-clause-writes : goal.returns-clause-writes
returns-clause-writes c = search (rules, all_listed)
