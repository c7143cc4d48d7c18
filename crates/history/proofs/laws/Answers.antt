use Rattle.history.proofs.Whole.{always, alike, steady, undone_wholly, refused_wholly}
use Rattle.history.proofs.Replies.{answered, answered_once}
use Rattle.history.proofs.laws.Goals as goal

pub returns : goal.returns
returns c = record {
  always = always;
  alike = alike;
  steady = steady;
  undone_wholly = undone_wholly;
  refused_wholly = refused_wholly;
  answered = answered;
  answered_once = answered_once;
}
