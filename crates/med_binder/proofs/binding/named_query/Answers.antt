use Rattle.med_catalog.specs.View.{objects}
use Rattle.med_binder.specs.Looked.{query_in}
use Rattle.med_syntax.specs.QueryView.{statement_tree}
use Rattle.med_binder.proofs.OverCatalog.{none_named}
use Rattle.med_binder.proofs.binding.named_query.Goals as goal

pub returns-clause-clear : goal.returns-clause-clear
returns-clause-clear c = none_named (objects c.args.catalog.now) _ c.args.user.now (query_in (statement_tree c.args.statement.now)) c.named_over.result c.named_over.ensures
