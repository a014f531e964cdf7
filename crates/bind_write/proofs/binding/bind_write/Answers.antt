use Rattle.std.proofs.Common.{map}
use Rattle.med_syntax.specs.WriteView.{write_tree}
use Rattle.med_catalog.specs.View.{objects}
use Rattle.med_binder.specs.Places.{attached}
use Rattle.bind_write.proofs.Writes.{answers_bindable, answers_meant, answers_refused, answers_memory}
use Rattle.bind_write.proofs.binding.bind_write.Goals as goal

pub returns-clause-bindable : goal.returns-clause-bindable
returns-clause-bindable c = answers_bindable (objects c.args.catalog.now) (map attached c.args.bound.now) c.args.user.now (write_tree c.args.statement) c.write_over.result c.write_over.ensures

pub returns-clause-meant : goal.returns-clause-meant
returns-clause-meant c = answers_meant (objects c.args.catalog.now) (map attached c.args.bound.now) c.args.user.now (write_tree c.args.statement) c.write_over.result c.write_over.ensures

pub returns-clause-refused : goal.returns-clause-refused
returns-clause-refused c = answers_refused (objects c.args.catalog.now) (map attached c.args.bound.now) c.args.user.now (write_tree c.args.statement) c.write_over.result c.write_over.ensures

pub returns-clause-read : goal.returns-clause-read
returns-clause-read c = λ names types. answers_memory (objects c.args.catalog.now) (map attached c.args.bound.now) c.args.user.now (write_tree c.args.statement) c.write_over.result c.write_over.ensures names types
