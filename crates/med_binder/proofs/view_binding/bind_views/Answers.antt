use Rattle.std.proofs.Common.{map}
use Rattle.med_syntax.specs.QueryView.{statement_tree}
use Rattle.bind_names.specs.Scope.{table_shape}
use Rattle.med_binder.proofs.Binds.{binds_read}
use Rattle.med_binder.proofs.Viewed.{binds_wide, binds_counted, binds_within, binds_alike}
use Rattle.med_binder.proofs.view_binding.bind_views.Goals as goal

pub returns-clause-read : goal.returns-clause-read
returns-clause-read c = binds_read (map table_shape c.args.tables.now) (statement_tree c.args.statement.now) c.bind_statement.result c.bind_statement.ensures.binds

pub returns-clause-widths : goal.returns-clause-widths
returns-clause-widths c = binds_wide c.args.tables.now (statement_tree c.args.statement.now) c.bind_statement.result c.bind_statement.ensures.binds c.bind_statement.ensures.entries

pub returns-clause-counts : goal.returns-clause-counts
returns-clause-counts c = binds_counted c.args.tables.now (statement_tree c.args.statement.now) c.bind_statement.result c.bind_statement.ensures.binds c.bind_statement.ensures.entries

pub returns-clause-view : goal.returns-clause-view
returns-clause-view c = binds_within c.args.tables.now (statement_tree c.args.statement.now) c.bind_statement.result c.bind_statement.ensures.binds c.bind_statement.ensures.entries

pub returns-clause-alike : goal.returns-clause-alike
returns-clause-alike c = binds_alike c.args.tables.now (statement_tree c.args.statement.now) c.bind_statement.result c.bind_statement.ensures.binds
