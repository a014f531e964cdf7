use Rattle.std.proofs.Common.{◌∙◌, List, map, ap}
use Rattle.sqlite.specs.Held.{state}
use Rattle.fdw_api.specs.Prelude.{spec_by, restriction_form, key_form, wish_form}
use Rattle.fdw_api.specs.declared.wishes.OrderKey.{OrderKey}
use Rattle.sqlite_wrapper.specs.Boxes.{is_by_key}
use Rattle.sqlite_wrapper.proofs.LiveScans.{sqlite_promises}
use Rattle.sqlite_wrapper.proofs.wrapper.SqliteWrapperWrapper2.plan2.Goals as goal

pub returns-clause-ok : goal.returns-clause-ok
returns-clause-ok g c =
    let s = c.args.self.now in
    sqlite_promises g.S.SourceStore.honest s.bound.items s.staged (state g.S.Store s.conn).now s.scans s.next s.pulled s.faults
    c.args.t.number
    (spec_by c.args.wanted.now (map restriction_form c.args.offered.now) c.in_ok-base.base) (wish_form c.args.wish.now)
    c.is_by_key-ordered.result _ c.in_ok-base.ensures.ok
    (c.is_by_key-ordered.ensures ∙ ap (λ (ks : List OrderKey). is_by_key (map key_form ks)) c.deref.ensures.value)
