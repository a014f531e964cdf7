use Rattle.std.proofs.Common.{◌≡◌, List, false, map, length, slice_get, slice_index_or, ap, sym, refl, subst, arith, rules}
use Rattle.std.proofs.lemmas.Option.{slice_get_within, slice_get_read}
use Rattle.std.proofs.lemmas.Result.{err_from_is_err_and}
use Rattle.list_wrapper.proofs.Closing.{marked_there}
use Rattle.med_value.specs.declared.value.Row.{Row}
use Rattle.med_value.specs.Datum.{Tuple, datum}
use Rattle.fdw_api.specs.Prelude.{Spec, spec_of, key_form}
use Rattle.fdw_api.specs.declared.wishes.OrderKey.{OrderKey}
use Rattle.list_wrapper.specs.Scans.{numbered, keys_of, rows_at, listed_rows, index_of, Bounds, Arranges}
use Rattle.list_wrapper.proofs.Calls.{at_some, list_begins, keeps_fitting, same_fitting, same_fresh, begins_fresh, refused_begin, no_index_serves, no_index_stands}
use Rattle.wrapper_parts.specs.Rising.{AreRising}
use Rattle.list_wrapper.proofs.RisingLists.{rises_at}
use Rattle.list_wrapper.proofs.Walks.{arranged_comes, other_limit}
use Rattle.list_wrapper.proofs.list.ListWrapper.start.Goals as goal

pub invariant_of-self : goal.invariant_of-self
invariant_of-self c =
    let s = c.args.self.now in
    let same : c.insert.new.self.entries ≡ s.scans.entries = search rules in
    record {
      marked = s.marked;
      noted = s.noted;
      rises = s.rises;
      distinct = s.distinct;
      typed = s.typed;
      fitting = same_fitting s.tables.items s.scans c.insert.new.self same s.fitting;
      typed_write = s.typed_write;
      fresh = same_fresh s.scans c.insert.new.self s.next same s.fresh;
    }

pub returns-in_default-clause-err : goal.returns-in_default-clause-err
returns-in_default-clause-err c =
    let s = c.args.self.now in
    let same : c.insert.new.self.entries ≡ s.scans.entries = search rules in
    refused_begin s.tables.items s.bound.items s.scans c.insert.new.self s.staged s.next s.pulled same

pub invariant_of-self-2 : goal.invariant_of-self-2
invariant_of-self-2 c =
    let s = c.args.self.now in
    let w = marked_there (slice_index_or s.bound.items c.args.t.number false) (slice_get s.tables.items c.args.t.number) c.requires in
    let within = slice_get_within s.tables.items c.args.t.number w.1 w.2 in
    let x = c.index.result.now in
    let dx = slice_get_read s.tables.items (length s.tables.items) c.args.t.number x refl within c.index.ensures in
    let here : x.rows.items ≡ rows_at s.tables.items c.args.t.number = sym (ap listed_rows dx) in
    let none = c.in_ok-walk.ensures.no_index in
    let spec : Spec = record (spec_of c.in_ok-spec.spec) { order = map key_form c.args.order.items; limit = c.args.limit } in
    let rows = numbered 0 (rows_at s.tables.items c.args.t.number) in
    let walk = c.in_ok-walk.walk in
    let params = map datum c.args.params.now in
    let over : Arranges (record (spec_of c.args.spec.now) { order = map key_form c.deref-2.result.now }) params rows walk =
    subst (λ (l : List Row). Arranges (record (spec_of c.args.spec.now) { order = map key_form c.deref-2.result.now }) params (numbered 0 l) walk) here c.in_ok-walk.ensures.arranges in
    let arranges : Arranges (record (spec_of c.args.spec.now) { order = map key_form c.args.order.items }) params rows walk =
    subst (λ (keys : List OrderKey). Arranges (record (spec_of c.args.spec.now) { order = map key_form keys }) params rows walk) c.deref-2.ensures.value over in
    let copied : record (spec_of c.args.spec.now) { order = map key_form c.args.order.items; limit = c.args.limit } ≡ spec =
    sym (ap (λ (z : Spec). record z { order = map key_form c.args.order.items; limit = c.args.limit }) c.in_ok-spec.ensures) in
    let bounds : Bounds spec (map datum c.in_ok-params.params.items) rows walk =
    subst (λ (z : Spec). Bounds z (map datum c.in_ok-params.params.items) rows walk) copied
    (subst (λ (z : Tuple). Bounds (record (spec_of c.args.spec.now) { order = map key_form c.args.order.items; limit = c.args.limit }) z rows walk) (sym c.in_ok-params.ensures) arranges.bounds) in
    record {
      marked = s.marked;
      noted = s.noted;
      rises = s.rises;
      distinct = s.distinct;
      typed = s.typed;
      fitting = keeps_fitting s.tables.items s.scans c.insert.new.self s.next _ s.fitting (no_index_serves spec rows (index_of c.in_ok-walk.walk) none, no_index_stands spec (map datum c.in_ok-params.params.items) rows 0 (index_of c.in_ok-walk.walk) none, bounds) c.in-Ok.ensures.updates;
      typed_write = s.typed_write;
      fresh = begins_fresh s.scans c.insert.new.self s.next _ s.fresh c.in-Ok.ensures.updates;
    }

pub returns-clause-ok : goal.returns-clause-ok
returns-clause-ok c =
    let s = c.args.self.now in
    let w = marked_there (slice_index_or s.bound.items c.args.t.number false) (slice_get s.tables.items c.args.t.number) c.requires in
    let within = slice_get_within s.tables.items c.args.t.number w.1 w.2 in
    let x = c.index.result.now in
    let dx = slice_get_read s.tables.items (length s.tables.items) c.args.t.number x refl within c.index.ensures in
    let here : x.rows.items ≡ rows_at s.tables.items c.args.t.number = sym (ap listed_rows dx) in
    let b = at_some _ c.requires in
    let walk = c.in_ok-walk.walk in
    let spec : Spec = record (spec_of c.args.spec.now) { order = map key_form c.args.order.items; limit = c.args.limit } in
    let params = map datum c.args.params.now in
    let rows = numbered 0 (rows_at s.tables.items c.args.t.number) in
    let over : Arranges (record (spec_of c.args.spec.now) { order = map key_form c.deref-2.result.now }) params rows walk =
    subst (λ (l : List Row). Arranges (record (spec_of c.args.spec.now) { order = map key_form c.deref-2.result.now }) params (numbered 0 l) walk) here c.in_ok-walk.ensures.arranges in
    let arranges : Arranges (record (spec_of c.args.spec.now) { order = map key_form c.args.order.items }) params rows walk =
    subst (λ (keys : List OrderKey). Arranges (record (spec_of c.args.spec.now) { order = map key_form keys }) params rows walk) c.deref-2.ensures.value over in
    list_begins s.tables.items s.bound.items s.scans c.insert.new.self s.staged c.args.t.number s.next s.pulled spec params _ b.0 b.1 (s.fresh s.next (omega arith)) (omega arith) c.in-Ok.ensures.updates refl
    (ap (λ (z : Spec). record z { order = map key_form c.args.order.items; limit = c.args.limit }) c.in_ok-spec.ensures) c.in_ok-params.ensures refl refl refl
    (arranged_comes spec params rows walk (other_limit (record (spec_of c.args.spec.now) { order = map key_form c.args.order.items }) params rows walk c.args.limit arranges))

pub first_walk-requires : goal.first_walk-requires
first_walk-requires c = λ e.
    (let s = c.args.self.now in
    let w = marked_there (slice_index_or s.bound.items c.args.t.number false) (slice_get s.tables.items c.args.t.number) c.requires in
    let within = slice_get_within s.tables.items c.args.t.number w.1 w.2 in
    let x = c.index.result.now in
    let dx = slice_get_read s.tables.items (length s.tables.items) c.args.t.number x refl within c.index.ensures in
    let here : x.rows.items ≡ rows_at s.tables.items c.args.t.number = sym (ap listed_rows dx) in
    let marked = rw (c.deref.ensures.value, e) at c.is_rising-rises.ensures in
    subst (λ (l : List Row). AreRising (keys_of l)) (sym here)
    (rises_at s.tables.items s.rising.items c.args.t.number s.rises (sym marked)))

pub index-requires : goal.index-requires
index-requires c =
    let s = c.args.self.now in
    let w = marked_there (slice_index_or s.bound.items c.args.t.number false) (slice_get s.tables.items c.args.t.number) c.requires in
    let within = slice_get_within s.tables.items c.args.t.number w.1 w.2 in
    search rules

pub returns-in_err-spec-clause-err : goal.returns-in_err-spec-clause-err
returns-in_err-spec-clause-err c =
    let s = c.args.self.now in
    let p = err_from_is_err_and c.from_residual-in_err-spec.result c.from_residual-in_err-spec.ensures.1 in
    rw (p.1, p.2) (refused_begin s.tables.items s.bound.items s.scans s.scans s.staged s.next s.pulled refl)

pub returns-in_err-params-clause-err : goal.returns-in_err-params-clause-err
returns-in_err-params-clause-err c =
    let s = c.args.self.now in
    let p = err_from_is_err_and c.from_residual-in_err-params.result c.from_residual-in_err-params.ensures.1 in
    rw (p.1, p.2) (refused_begin s.tables.items s.bound.items s.scans s.scans s.staged s.next s.pulled refl)
