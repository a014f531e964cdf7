use Rattle.std.proofs.Common.{Some, refl}
use Rattle.fdw_api.specs.Prelude.{Deletes, CanModify}
use Rattle.probe_wrapper.proofs.CallLemmas.{begun_is_open}
use Rattle.wrapper_tests.proofs.CallLemmas.{staged_can_close}
use Rattle.wrapper_tests.proofs.Deletes.{live_still, can_modify_still, can_delete_given}
use Rattle.wrapper_tests.proofs.orders.delete_first.Goals as goal

pub begin-requires : goal.begin-requires
begin-requires g c = c.plain.ensures.allowed _ _ c.requires.is_bound

pub iterate-first-requires : goal.iterate-first-requires
iterate-first-requires g c = begun_is_open _ _ _ _ _ _ c.in_ok-ticket.ensures.ok

pub end-requires : goal.end-requires
end-requires g c =
    live_still (g.W.Wrapper.meaning c.begin.new.self) (g.W.Wrapper.meaning c.iterate-first.new.self) c.in_ok-ticket.ticket.number c.iterate-first.result
    (begun_is_open (g.W.Wrapper.meaning c.args.source.now) (g.W.Wrapper.meaning c.begin.new.self) _ _ _ _ c.in_ok-ticket.ensures.ok) c.iterate-first.ensures.ok c.iterate-first.ensures.err

pub begin_modify-requires : goal.begin_modify-requires
begin_modify-requires g c =
    can_modify_still (g.W.Wrapper.meaning c.args.source.now) (g.W.Wrapper.meaning c.begin.new.self) (g.W.Wrapper.meaning c.iterate-first.new.self) (g.W.Wrapper.meaning c.end.new.self) c.args.table.number _ _ c.in_ok-ticket.ticket.number (Some c.in-Some.row) c.requires c.in_ok-ticket.ensures.ok (rw c.in-Some.is at c.in_ok-first.ensures.ok) c.end.ensures

pub delete-requires : goal.delete-requires
delete-requires g c =
    let can : CanModify (g.W.Wrapper.meaning c.end.new.self) c.args.table.number =
    can_modify_still (g.W.Wrapper.meaning c.args.source.now) (g.W.Wrapper.meaning c.begin.new.self) (g.W.Wrapper.meaning c.iterate-first.new.self) (g.W.Wrapper.meaning c.end.new.self) c.args.table.number _ _ c.in_ok-ticket.ticket.number (Some c.in-Some.row) c.requires c.in_ok-ticket.ensures.ok (rw c.in-Some.is at c.in_ok-first.ensures.ok) c.end.ensures in
    can_delete_given (g.W.Wrapper.meaning c.args.source.now) (g.W.Wrapper.meaning c.begin.new.self) (g.W.Wrapper.meaning c.iterate-first.new.self) (g.W.Wrapper.meaning c.end.new.self) (g.W.Wrapper.meaning c.begin_modify.new.self) c.args.table.number _ _ c.in_ok-ticket.ticket.number c.in-Some.row can
    c.in_ok-ticket.ensures.ok (rw c.in-Some.is at c.in_ok-first.ensures.ok) c.end.ensures c.in_ok-begin_modify-in-Some.ensures.ok refl

pub end_modify-requires : goal.end_modify-requires
end_modify-requires g c =
    let can : CanModify (g.W.Wrapper.meaning c.end.new.self) c.args.table.number =
    can_modify_still (g.W.Wrapper.meaning c.args.source.now) (g.W.Wrapper.meaning c.begin.new.self) (g.W.Wrapper.meaning c.iterate-first.new.self) (g.W.Wrapper.meaning c.end.new.self) c.args.table.number _ _ c.in_ok-ticket.ticket.number (Some c.in-Some.row) c.requires c.in_ok-ticket.ensures.ok (rw c.in-Some.is at c.in_ok-first.ensures.ok) c.end.ensures in
    staged_can_close (g.W.Wrapper.meaning c.end.new.self) (g.W.Wrapper.meaning c.begin_modify.new.self) (g.W.Wrapper.meaning c.delete.new.self) c.args.table.number (Deletes c.in-Some.row.id.number) can c.in_ok-begin_modify-in-Some.ensures.ok c.in_ok-delete-in-Some.ensures.ok
