use Rattle.pushdown.proofs.Splitting.{split}
use Rattle.pushdown.proofs.law.offers_split.Goals as goal

pub returns : goal.returns
returns c = split c.bare_tree_means_the_same.ensures
