use Rattle.std.proofs.Common.{rules}
use Rattle.table.proofs.SortTests.{tells_sorts}
use Rattle.table.proofs.lengths.Reading.back_one.Goals as goal

pub returns-else-eq-clause-is : goal.returns-else-eq-clause-is
returns-else-eq-clause-is c = search (rules, tells_sorts)
