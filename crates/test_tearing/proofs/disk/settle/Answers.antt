use Rattle.std.proofs.Common.{rules}
use Rattle.test_tearing.proofs.disk.settle.Goals as goal

pub returns-clause-past : goal.returns-clause-past
returns-clause-past c = (record { synced = c.replace.result; changes = c.replace-2.result }, search rules, search rules, search rules)
