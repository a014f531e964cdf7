use Rattle.pushdown.proofs.Deciding.{tests_decide}
use Rattle.pushdown.proofs.law.tests_decide.Goals as goal

pub returns : goal.returns
returns c = tests_decide c.bare_tree_means_the_same.ensures
