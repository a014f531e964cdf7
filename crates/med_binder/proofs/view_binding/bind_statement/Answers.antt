use Rattle.std.proofs.Common.{◌≡◌, map, sym, subst, IfOk}
use Rattle.med_syntax.specs.QueryTree.{StatementTree}
use Rattle.bind_names.specs.Prelude.{table_shape, statement_name_causes, meant}
use Rattle.bind_types.specs.Typing.{statement_type_causes}
use Rattle.med_binder.specs.Binding.{bound_kinds, kinds_of_answer}
use Rattle.med_binder.specs.Turns.{Binds}
use Rattle.med_binder.proofs.view_binding.bind_statement.Goals as goal

pub returns-clause-binds : goal.returns-clause-binds
returns-clause-binds c =
    let tables = map table_shape c.args.tables.now in
    subst (λ (t : StatementTree). Binds (statement_name_causes tables t) (statement_type_causes tables t) (meant tables t) c.bind_select.result) (sym c.query_of.ensures) c.bind_select.ensures.binds

pub returns-clause-kinds : goal.returns-clause-kinds
returns-clause-kinds c =
    let tables = map table_shape c.args.tables.now in
    subst (λ (t : StatementTree). IfOk c.bind_select.result (λ b. bound_kinds b ≡ kinds_of_answer tables t)) (sym c.query_of.ensures) c.bind_select.ensures.kinds
