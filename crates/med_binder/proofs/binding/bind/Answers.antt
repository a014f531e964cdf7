use Rattle.med_catalog.specs.View.{objects}
use Rattle.med_binder.specs.Looked.{query_in}
use Rattle.med_syntax.specs.QueryView.{statement_tree}
use Rattle.med_binder.proofs.OverCatalog.{only_memory}
use Rattle.med_binder.proofs.binding.bind.Goals as goal

pub returns-clause-read : goal.returns-clause-read
returns-clause-read c = λ names types. only_memory (objects c.args.catalog.now) _ c.args.user.now (query_in (statement_tree c.args.statement.now)) c.bind_over.result names types c.bind_over.ensures
