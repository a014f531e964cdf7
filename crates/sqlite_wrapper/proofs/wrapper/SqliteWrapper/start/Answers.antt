use Rattle.std.proofs.Common.{Some, ◌≡◌, ◌∙◌, ◌&&◌, ℕ, true, false, nat_lt, map, refl, sym, subst, slice_index_or, arith}
use Rattle.std.proofs.lemmas.Option.{same_Some}
use Rattle.med_value.specs.Datum.{Tuple, datum}
use Rattle.fdw_api.specs.Scan.{Spec, spec_of}
use Rattle.wrapper_parts.specs.Ranges.{only_keys}
use Rattle.sqlite.specs.Held.{state}
use Rattle.sqlite_tables.specs.Layouts.{layout_at, layout_count}
use Rattle.sqlite_tables.proofs.Clean.{steady_entries}
use Rattle.sqlite_wrapper.proofs.Bound.{bound_within}
use Rattle.sqlite_wrapper.proofs.Kept.{within_count}
use Rattle.sqlite_wrapper.specs.Boxes.{IsBegun, allows, asked_of, bound_of, is_allowed, promised, scan_is}
use Rattle.sqlite_wrapper.specs.declared.scans.KeyScan.{KeyScan}
use Rattle.sqlite_wrapper.proofs.Maps.{sets}
use Rattle.sqlite_wrapper.proofs.LiveScans.{asks, begun_fresh, keeps_allowed, marked_bound_is, refused_by, sqlite_begins, sqlite_refuses}
use Rattle.sqlite_wrapper.specs.Looks.{Looks}
use Rattle.sqlite_wrapper.proofs.Looking.{keeps_looks, looks_none}
use Rattle.sqlite_wrapper.proofs.Giving.{same_get}
use Rattle.sqlite_wrapper.proofs.wrapper.SqliteWrapper.start.Goals as goal

pub table_rises-requires-clause-within : goal.table_rises-requires-clause-within
table_rises-requires-clause-within g c = let s = c.args.self.now in within_count c.args.t.number s.bound.items s.counted
    (bound_within s.bound.items c.args.t.number c.requires.bound)

pub table_rises-requires-clause-writable : goal.table_rises-requires-clause-writable
table_rises-requires-clause-writable g c = c.args.self.now.writable c.args.t.number

pub new_scan-scan-requires : goal.new_scan-scan-requires
new_scan-scan-requires g c =
    let spec = spec_of c.args.spec.now in
    let a = asks c.args.t.number (promised spec c.args.order.items c.args.limit) (map datum c.args.params.now) c.requires.allowed
    c.requires.typed in
    let b = subst (λ (p : Tuple). only_keys p spec.offered spec.answers ≡ true) (sym c.in_ok-params.ensures) a in
    subst (λ (z : Spec). only_keys (map datum c.in_ok-params.params.items) z.offered z.answers ≡ true) (sym c.in_ok-spec.ensures) b

pub returns-clause-ok : goal.returns-clause-ok
returns-clause-ok g c =
    let s = c.args.self.now in
    let t = c.args.t.number in
    let scan = c.new_scan-scan.result in
    let one = subst (λ (z : Spec). IsBegun scan t (promised z c.args.order.items c.args.limit) (map datum c.in_ok-params.params.items))
    c.in_ok-spec.ensures c.new_scan-scan.ensures in
    let begun = subst (λ (p : Tuple). IsBegun scan t (promised (spec_of c.args.spec.now) c.args.order.items c.args.limit) p)
    c.in_ok-params.ensures one in
    sqlite_begins g.S.SourceStore.honest s.bound.items s.staged (state g.S.Store s.conn).now scan t
    (promised (spec_of c.args.spec.now) c.args.order.items c.args.limit) (map datum c.args.params.now) begun c.requires.allowed
    s.scans c.insert.new.self s.next s.pulled s.faults (bound_of t) c.table_rises.ensures
    (within_count t s.bound.items s.counted (bound_within s.bound.items t c.requires.bound))
    (marked_bound_is (slice_index_or s.bound.items t false) t c.requires.bound) (s.fresh s.next (omega arith)) (omega arith)
    (sets s.scans c.insert.new.self s.next (Some scan) c.in_ok-insert.ensures.updates)

pub returns-in_err-params-clause-err : goal.returns-in_err-params-clause-err
returns-in_err-params-clause-err g c =
    let s = c.args.self.now in
    refused_by c.from_residual-in_err-params.result _ c.from_residual-in_err-params.ensures.1
    (sqlite_refuses g.S.SourceStore.honest s.bound.items s.staged (state g.S.Store s.conn).now s.scans s.scans s.next s.pulled s.faults
    refl)

pub returns-in_err-insert-clause-err : goal.returns-in_err-insert-clause-err
returns-in_err-insert-clause-err g c =
    let s = c.args.self.now in
    refused_by c.from_residual-in_err-insert.result _ c.from_residual-in_err-insert.ensures.1
    (sqlite_refuses g.S.SourceStore.honest s.bound.items s.staged (state g.S.Store s.conn).now s.scans c.insert.new.self s.next s.pulled
    s.faults c.in_err-insert.ensures.err)

pub invariant_of-self-2 : goal.invariant_of-self-2
invariant_of-self-2 g c =
    let s = c.args.self.now in
    let t = c.args.t.number in
    let scan = c.new_scan-scan.result in
    let one = subst (λ (z : Spec). IsBegun scan t (promised z c.args.order.items c.args.limit) (map datum c.in_ok-params.params.items))
    c.in_ok-spec.ensures c.new_scan-scan.ensures in
    let begun = subst (λ (p : Tuple). IsBegun scan t (promised (spec_of c.args.spec.now) c.args.order.items c.args.limit) p)
    c.in_ok-params.ensures one in
    let within = within_count t s.bound.items s.counted (bound_within s.bound.items t c.requires.bound) in
    let may : allows (promised (spec_of c.args.spec.now) c.args.order.items c.args.limit) ≡ true = c.requires.allowed in
    let ok : is_allowed (scan_is scan) ≡ true =
    subst (λ (q : ℕ). (nat_lt q layout_count && allows (asked_of scan)) ≡ true) (sym begun.new.table)
    (subst (λ (z : Spec). (nat_lt t layout_count && allows z) ≡ true) (sym begun.new.spec_is) (rw within may)) in
    let u = sets s.scans c.insert.new.self s.next (Some scan) c.in_ok-insert.ensures.updates in
    record {
      shaped = s.shaped;
      counted = s.counted;
      idle = s.idle;
      writable = s.writable;
      apart = s.apart;
      named = s.named;
      there = s.there;
      typed_write = s.typed_write;
      counts = s.counts;
      few = s.few;
      allowed = keeps_allowed s.scans c.insert.new.self s.next (Some scan) s.allowed
          (λ z e. subst (λ (y : KeyScan). is_allowed (scan_is y) ≡ true) (same_Some _ _ e) ok) u;
      fresh = begun_fresh s.scans c.insert.new.self s.next (Some scan) s.fresh u;
      looked = λ h.
          let db = (state g.S.Store s.conn).now in
          keeps_looks db s.scans c.insert.new.self s.next (Some scan) (s.looked h)
          (λ z e. subst (Looks db) (same_Some _ _ e) (looks_none db scan begun.new.no_lookup)) u;
    }

pub invariant_of-self : goal.invariant_of-self
invariant_of-self g c =
    let s = c.args.self.now in
    let same = same_get s.scans c.insert.new.self c.in_err-insert.ensures.err in
    record {
      shaped = s.shaped;
      counted = s.counted;
      idle = s.idle;
      writable = s.writable;
      apart = s.apart;
      named = s.named;
      there = s.there;
      typed_write = s.typed_write;
      counts = s.counts;
      few = s.few;
      allowed = λ k z e. s.allowed k z (sym (same k) ∙ e);
      fresh = λ k le. same k ∙ s.fresh k le;
      looked = λ h k z e. s.looked h k z (sym (same k) ∙ e);
    }

pub returns-clause-clean_ok : goal.returns-clause-clean_ok
returns-clause-clean_ok g c steady known =
    let s = c.args.self.now in
    let t = c.args.t.number in
    let scan = c.new_scan-scan.result in
    let one = subst (λ (z : Spec). IsBegun scan t (promised z c.args.order.items c.args.limit) (map datum c.in_ok-params.params.items))
    c.in_ok-spec.ensures c.new_scan-scan.ensures in
    let begun = subst (λ (p : Tuple). IsBegun scan t (promised (spec_of c.args.spec.now) c.args.order.items c.args.limit) p)
    c.in_ok-params.ensures one in
    sqlite_begins true s.bound.items s.staged (state g.S.Store s.conn).now scan t
    (promised (spec_of c.args.spec.now) c.args.order.items c.args.limit) (map datum c.args.params.now) begun c.requires.allowed
    s.scans c.insert.new.self s.next s.pulled s.faults (bound_of t)
    (λ yes. steady_entries g.S.Store s.conn (layout_at t) steady (c.schema-schema.ensures.live steady.is_open).0 (known t))
    (within_count t s.bound.items s.counted (bound_within s.bound.items t c.requires.bound))
    (marked_bound_is (slice_index_or s.bound.items t false) t c.requires.bound) (s.fresh s.next (omega arith)) (omega arith)
    (sets s.scans c.insert.new.self s.next (Some scan) c.in_ok-insert.ensures.updates)

pub returns-in_err-params-clause-clean_err : goal.returns-in_err-params-clause-clean_err
returns-in_err-params-clause-clean_err g c =
    let s = c.args.self.now in
    refused_by c.from_residual-in_err-params.result _ c.from_residual-in_err-params.ensures.1
    (sqlite_refuses true s.bound.items s.staged (state g.S.Store s.conn).now s.scans s.scans s.next s.pulled s.faults refl)

pub returns-in_err-insert-clause-clean_err : goal.returns-in_err-insert-clause-clean_err
returns-in_err-insert-clause-clean_err g c =
    let s = c.args.self.now in
    refused_by c.from_residual-in_err-insert.result _ c.from_residual-in_err-insert.ensures.1
    (sqlite_refuses true s.bound.items s.staged (state g.S.Store s.conn).now s.scans c.insert.new.self s.next s.pulled s.faults
    c.in_err-insert.ensures.err)
