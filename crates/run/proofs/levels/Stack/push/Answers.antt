use Rattle.run.proofs.Stacks.{frames_push}
use Rattle.run.proofs.levels.Stack.push.Goals as goal

pub returns-clause-frames : goal.returns-clause-frames
returns-clause-frames c = frames_push _ _ _ c.requires.room
