use Rattle.std.proofs.Common.{subst, sym, IsTrue, ◌↔◌, Contains}
use Rattle.med_syntax.specs.Words.{reserved, is_reserved}
use Rattle.med_syntax.proofs.ReservedWords.{is_reserved-Decides}
use Rattle.med_syntax.proofs.words.is_reserved.Goals as goal

pub returns-clause-test : goal.returns-clause-test
unfolding is_reserved
returns-clause-test c = c.contains.ensures.value

pub returns-clause-exact : goal.returns-clause-exact
unfolding is_reserved
returns-clause-exact c = subst (λ b. IsTrue b ↔ Contains reserved c.args.word.now) (sym c.contains.ensures.value) (is_reserved-Decides c.args.word.now)
