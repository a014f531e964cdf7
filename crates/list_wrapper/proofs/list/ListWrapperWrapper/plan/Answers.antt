use Rattle.list_wrapper.proofs.Tables.{list_allows}
use Rattle.list_wrapper.proofs.list.ListWrapperWrapper.plan.Goals as goal

pub returns-clause-ok : goal.returns-clause-ok
returns-clause-ok c =
    let s = c.args.self.now in
    list_allows s.tables.items s.bound.items s.scans s.staged s.next s.pulled c.args._t.number _ c.requires
