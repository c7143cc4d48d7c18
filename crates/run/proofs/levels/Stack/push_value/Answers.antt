use Rattle.run.proofs.Stacks.{values_push}
use Rattle.run.proofs.levels.Stack.push_value.Goals as goal

pub returns-clause-values : goal.returns-clause-values
returns-clause-values c = values_push _ _ _ _ c.requires.room
