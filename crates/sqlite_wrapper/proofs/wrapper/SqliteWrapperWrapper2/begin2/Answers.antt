use Rattle.std.proofs.Common.{◌≡◌, List, true, false, map, sym, subst, slice_index_or}
use Rattle.med_value.specs.Datum.{datum}
use Rattle.med_value.specs.declared.value.ColType.{ColType}
use Rattle.fdw_api.specs.Prelude.{Spec, params_fit, spec_of, Begins, spec2_of}
use Rattle.fdw_api.proofs.LiftLemmas.{if_ok}
use Rattle.sqlite.specs.Held.{state}
use Rattle.sqlite_wrapper.specs.Boxes.{allows, sqlite_state}
use Rattle.sqlite_wrapper.proofs.Kept.{some_there}
use Rattle.sqlite_wrapper.proofs.LiveScans.{bound_allows, bound_kinds, promised_is}
use Rattle.sqlite_wrapper.proofs.wrapper.SqliteWrapperWrapper2.begin2.Goals as goal

pub start-requires-clause-bound : goal.start-requires-clause-bound
start-requires-clause-bound g c = some_there _ _ c.requires.is

pub start-requires-clause-allowed : goal.start-requires-clause-allowed
start-requires-clause-allowed g c =
    let s = c.args.self.now in
    let t = c.args.t.number in
    let spec = c.args.spec.now in
    subst (λ (z : Spec). allows z ≡ true) (sym (promised_is spec c.in_ok-order.order.items c.promised_limit-limit.result
    c.in_ok-order.ensures c.promised_limit-limit.ensures))
    (bound_allows (slice_index_or s.bound.items t false) t c.requires.bound (spec2_of spec) c.requires.is c.requires.allowed)

pub start-requires-clause-typed : goal.start-requires-clause-typed
start-requires-clause-typed g c =
    let s = c.args.self.now in
    let t = c.args.t.number in
    subst (λ (k : List ColType). params_fit k (spec_of c.args.spec.now.base).offered (map datum c.args.params.now) ≡ true)
    (bound_kinds (slice_index_or s.bound.items t false) t c.requires.bound c.requires.is) c.requires.typed

pub returns-clause-ok : goal.returns-clause-ok
returns-clause-ok g c =
    let s = c.args.self.now in
    let n = c.start.new.self in
    let spec = c.args.spec.now in
    let honest = g.S.SourceStore.honest in
    if_ok _ _ c.start.result
    (λ ticket b. subst
    (λ (z : Spec). Begins (sqlite_state honest (state g.S.Store s.conn).now s.bound.items s.scans s.staged s.next s.pulled s.faults)
    c.args.t.number z (map datum c.args.params.now) ticket.number
    (sqlite_state honest (state g.S.Store n.conn).now n.bound.items n.scans n.staged n.next n.pulled n.faults))
    (promised_is spec c.in_ok-order.order.items c.promised_limit-limit.result c.in_ok-order.ensures c.promised_limit-limit.ensures) b)
    c.start.ensures.ok

pub returns-clause-clean_ok : goal.returns-clause-clean_ok
returns-clause-clean_ok g c steady known =
    let s = c.args.self.now in
    let n = c.start.new.self in
    let spec = c.args.spec.now in
    if_ok _ _ c.start.result
    (λ ticket b. subst
    (λ (z : Spec). Begins (sqlite_state true (state g.S.Store s.conn).now s.bound.items s.scans s.staged s.next s.pulled s.faults)
    c.args.t.number z (map datum c.args.params.now) ticket.number
    (sqlite_state true (state g.S.Store n.conn).now n.bound.items n.scans n.staged n.next n.pulled n.faults))
    (promised_is spec c.in_ok-order.order.items c.promised_limit-limit.result c.in_ok-order.ensures c.promised_limit-limit.ensures) b)
    (c.start.ensures.clean_ok steady known)
