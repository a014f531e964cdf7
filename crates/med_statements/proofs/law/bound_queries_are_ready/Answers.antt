use Rattle.med_statements.proofs.Ready.{bound_ready, read_once}
use Rattle.med_statements.proofs.law.bound_queries_are_ready.Goals as goal

pub returns : goal.returns
returns c = record {
  ready = bound_ready c.tables_are_counted.ensures c.columns_are_in_view.ensures c.compared_columns_are_alike.ensures c.bound_rows_are_wide.ensures.sound;
  once = read_once;
}
