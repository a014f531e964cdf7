use Rattle.std.proofs.Common.{◌∙◌, length, ap, rules}
use Rattle.fdw_api.specs.Wishes.{wish_form, all_exact}
use Rattle.list_wrapper.proofs.Tables.{list_promises}
use Rattle.list_wrapper.proofs.Walks.{fair, all_taken}
use Rattle.list_wrapper.proofs.list.ListWrapperWrapper2.plan2.Goals as goal

pub returns-clause-ok : goal.returns-clause-ok
returns-clause-ok c =
    let s = c.args.self.now in
    list_promises s.tables.items s.bound.items s.scans s.staged s.next s.pulled c.args.t.number _ c.requires

pub returns-clause-fair : goal.returns-clause-fair
returns-clause-fair c =
    fair (wish_form c.args.wish.now) c.in_ok-base.base.answers.items c.is_some.result (ap all_exact c.in_ok-base.ensures.takes_all ∙ all_taken (length c.args.offered.now)) (search rules)
