use Rattle.std.proofs.Common.{nat_lt, ℕ, ◌&&◌, Some, None, ◌≡◌, true, map, option_map, sym, subst, refl}
use Rattle.std.proofs.lemmas.Option.{same_Some}
use Rattle.std.proofs.lemmas.Bool.{and_parts}
use Rattle.med_value.specs.Datum.{datum}
use Rattle.fdw_api.specs.Scan.{Spec}
use Rattle.sqlite.specs.Held.{state}
use Rattle.sqlite_tables.specs.Layouts.{layout_at, layout_count}
use Rattle.sqlite_tables.proofs.Clean.{clean_sure}
use Rattle.sqlite_wrapper.specs.declared.scans.KeyScan.{KeyScan}
use Rattle.sqlite_wrapper.specs.Boxes.{allows, asked_of, is_allowed, scan_is}
use Rattle.wrapper_parts.specs.Staged.{write_is}
use Rattle.sqlite_wrapper.proofs.Maps.{sets, sets_on}
use Rattle.sqlite_wrapper.proofs.Kept.{writable_after, apart_after, there_after, counts_after}
use Rattle.sqlite_wrapper.proofs.Giving.{known_at, there_is, allows_same, breaks_by}
use Rattle.sqlite_wrapper.proofs.Looking.{keeps_looks, looks_after, looks_kept, looks_none, had_looks, answer_looks, answered_coming}
use Rattle.sqlite_wrapper.proofs.LiveScans.{
  at_some,
  if_some,
  open_there,
  keeps_fresh,
  keeps_allowed,
  rescan_asks,
  sqlite_rescans,
  sqlite_breaks,
}
use Rattle.sqlite_wrapper.proofs.wrapper.SqliteWrapperWrapper.rescan.Goals as goal

pub begun_again-requires-clause-there : goal.begun_again-requires-clause-there
begun_again-requires-clause-there g c =
    let s = c.args.self.now in
    open_there g.S.SourceStore.honest s.bound.items s.staged (state g.S.Store s.conn).now s.scans s.next s.pulled s.faults
    c.args.ticket.now.number _ c.requires.at

pub begun_again-requires-clause-keys : goal.begun_again-requires-clause-keys
begun_again-requires-clause-keys g c =
    let s = c.args.self.now in
    let is = open_there g.S.SourceStore.honest s.bound.items s.staged (state g.S.Store s.conn).now s.scans s.next s.pulled s.faults
    c.args.ticket.now.number _ c.requires.at in
    let w = at_some _ is in
    rw w.1 (rescan_asks g.S.SourceStore.honest s.bound.items s.staged (state g.S.Store s.conn).now s.scans s.next s.pulled s.faults
    c.args.ticket.now.number w.0 (map datum c.args.params.now) s.allowed w.1 c.requires)

pub spoil-requires : goal.spoil-requires
spoil-requires g c =
    let s = c.args.self.now in
    open_there g.S.SourceStore.honest s.bound.items s.staged (state g.S.Store s.conn).now s.scans s.next s.pulled s.faults
    c.args.ticket.now.number _ c.requires.at

pub table_rises-requires-clause-within : goal.table_rises-requires-clause-within
table_rises-requires-clause-within g c =
    let s = c.args.self.now in
    let number = c.args.ticket.now.number in
    let is = open_there g.S.SourceStore.honest s.bound.items s.staged (state g.S.Store s.conn).now s.scans s.next s.pulled s.faults number
    _ c.requires.at in
    let w = at_some _ is in
    let begun = if_some _ _ w.0 w.1 c.in-Ok.ensures in
    let may = and_parts (nat_lt w.0.table layout_count) (allows (asked_of w.0)) (s.allowed number w.0 w.1) in
    subst (λ (t : ℕ). nat_lt t layout_count ≡ true) (sym begun.new.table) may.0

pub table_rises-requires-clause-writable : goal.table_rises-requires-clause-writable
table_rises-requires-clause-writable g c = c.args.self.now.writable c.in-Ok.scan.table

pub look_up-requires-clause-within : goal.look_up-requires-clause-within
look_up-requires-clause-within g c =
    let s = c.args.self.now in
    let number = c.args.ticket.now.number in
    let is = open_there g.S.SourceStore.honest s.bound.items s.staged (state g.S.Store s.conn).now s.scans s.next s.pulled s.faults number
    _ c.requires.at in
    let w = at_some _ is in
    let begun = if_some _ _ w.0 w.1 c.in-Ok.ensures in
    let may = and_parts (nat_lt w.0.table layout_count) (allows (asked_of w.0)) (s.allowed number w.0 w.1) in
    subst (λ (t : ℕ). nat_lt t layout_count ≡ true) (sym begun.new.table) may.0

pub take_lookup-had-requires : goal.take_lookup-had-requires
take_lookup-had-requires g c =
    let s = c.args.self.now in
    open_there g.S.SourceStore.honest s.bound.items s.staged (state g.S.Store s.conn).now s.scans s.next s.pulled s.faults
    c.args.ticket.now.number _ c.requires.at

pub look_up-requires-clause-known : goal.look_up-requires-clause-known
look_up-requires-clause-known g c h =
    let s = c.args.self.now in
    known_at g.S.SourceStore.honest s.conn.schema c.in-Ok.scan.table s.writable h

pub look_up-requires-clause-had : goal.look_up-requires-clause-had
look_up-requires-clause-had g c h =
    let s = c.args.self.now in
    let number = c.args.ticket.now.number in
    let honest = g.S.SourceStore.honest in
    let db = (state g.S.Store s.conn).now in
    let is = open_there honest s.bound.items s.staged db s.scans s.next s.pulled s.faults number _ c.requires.at in
    let w = at_some _ is in
    let begun = if_some _ _ w.0 w.1 c.in-Ok.ensures in
    had_looks db w.0 c.in-Ok.scan c.take_lookup-had.result (s.looked h number w.0 w.1)
    (if_some _ _ w.0 w.1 c.take_lookup-had.ensures.lookup) begun.new.table

pub spoil-requires-in-Err-look_up : goal.spoil-requires-in-Err-look_up
spoil-requires-in-Err-look_up g c =
    let s = c.args.self.now in
    let number = c.args.ticket.now.number in
    let honest = g.S.SourceStore.honest in
    let db = (state g.S.Store s.conn).now in
    let is = open_there honest s.bound.items s.staged db s.scans s.next s.pulled s.faults number _ c.requires.at in
    let w = at_some _ is in
    let took = sets s.scans c.take_lookup-had.new.scans number (Some (record w.0 { lookup = None }))
    (if_some _ _ w.0 w.1 c.take_lookup-had.ensures.scans) in
    there_is _ _ took.0

pub put_scan-requires : goal.put_scan-requires
put_scan-requires g c =
    let s = c.args.self.now in
    let number = c.args.ticket.now.number in
    let honest = g.S.SourceStore.honest in
    let db = (state g.S.Store s.conn).now in
    let is = open_there honest s.bound.items s.staged db s.scans s.next s.pulled s.faults number _ c.requires.at in
    let w = at_some _ is in
    let took = sets s.scans c.take_lookup-had.new.scans number (Some (record w.0 { lookup = None }))
    (if_some _ _ w.0 w.1 c.take_lookup-had.ensures.scans) in
    there_is _ _ took.0

pub returns-in-Err-clause-err : goal.returns-in-Err-clause-err
returns-in-Err-clause-err g c =
    let s = c.args.self.now in
    let is = open_there g.S.SourceStore.honest s.bound.items s.staged (state g.S.Store s.conn).now s.scans s.next s.pulled s.faults
    c.args.ticket.now.number _ c.requires.at in
    let w = at_some _ is in
    sqlite_breaks g.S.SourceStore.honest s.bound.items s.staged (state g.S.Store s.conn).now s.scans c.spoil.new.scans s.next s.pulled
    s.faults c.args.ticket.now.number _ w.0 tt w.1 (sets s.scans c.spoil.new.scans c.args.ticket.now.number
    (Some (record w.0 { broken = true })) (if_some _ _ w.0 w.1 c.spoil.ensures))

pub returns-in-Err-look_up-clause-err : goal.returns-in-Err-look_up-clause-err
returns-in-Err-look_up-clause-err g c =
    let s = c.args.self.now in
    let number = c.args.ticket.now.number in
    let honest = g.S.SourceStore.honest in
    let db = (state g.S.Store s.conn).now in
    let is = open_there honest s.bound.items s.staged db s.scans s.next s.pulled s.faults number _ c.requires.at in
    let w = at_some _ is in
    let took = sets s.scans c.take_lookup-had.new.scans number (Some (record w.0 { lookup = None }))
    (if_some _ _ w.0 w.1 c.take_lookup-had.ensures.scans) in
    let after = (state g.S.Store c.look_up.new.conn).now in
    let v = sets c.take_lookup-had.new.scans c.spoil-in-Err-look_up.new.scans number (Some (record w.0 { lookup = None; broken = true }))
    (if_some _ _ (record w.0 { lookup = None }) took.0 c.spoil-in-Err-look_up.ensures) in
    let u = sets_on s.scans c.take_lookup-had.new.scans c.spoil-in-Err-look_up.new.scans number _ _ took v in
    rw c.faults_after-self.ensures
    (breaks_by honest s.bound.items s.staged db s.scans s.next number w.0 w.1 after c.spoil-in-Err-look_up.new.scans s.pulled s.faults
    c.in-Err-look_up.fault
    (record w.0 { lookup = None; broken = true }) c.in-Err-look_up.ensures.refused refl c.look_up.ensures.same u)

pub returns-in-Ok-look_up-clause-ok : goal.returns-in-Ok-look_up-clause-ok
returns-in-Ok-look_up-clause-ok g c =
    let s = c.args.self.now in
    let number = c.args.ticket.now.number in
    let honest = g.S.SourceStore.honest in
    let db = (state g.S.Store s.conn).now in
    let is = open_there honest s.bound.items s.staged db s.scans s.next s.pulled s.faults number _ c.requires.at in
    let w = at_some _ is in
    let took = sets s.scans c.take_lookup-had.new.scans number (Some (record w.0 { lookup = None }))
    (if_some _ _ w.0 w.1 c.take_lookup-had.ensures.scans) in
    let begun = if_some _ _ w.0 w.1 c.in-Ok.ensures in
    let x = c.in-Ok-look_up.scan in
    let after = (state g.S.Store c.look_up.new.conn).now in
    let v = sets c.take_lookup-had.new.scans c.put_scan.new.scans number (Some x) c.put_scan.ensures in
    let u = sets_on s.scans c.take_lookup-had.new.scans c.put_scan.new.scans number _ _ took v in
    let may = and_parts (nat_lt w.0.table layout_count) (allows (asked_of w.0)) (s.allowed number w.0 w.1) in
    let answered = c.in-Ok-look_up.ensures.answered in
    sqlite_rescans honest s.bound.items s.staged db c.in-Ok.scan w.0.table (asked_of w.0) (map datum c.args.params.now) begun may.1
    after s.scans c.put_scan.new.scans s.next s.pulled s.faults number w.0 x c.look_up.ensures.same answered.shows
    (λ h. answered_coming db c.in-Ok.scan x w.0.table (asked_of w.0) (map datum c.args.params.now) begun may.1 (c.table_rises.ensures h)
    (answered.rows h)) w.1 may.0 refl refl u

pub returns-in-Err-clause-clean_err : goal.returns-in-Err-clause-clean_err
returns-in-Err-clause-clean_err g c steady known =
    let s = c.args.self.now in
    let is = open_there g.S.SourceStore.honest s.bound.items s.staged (state g.S.Store s.conn).now s.scans s.next s.pulled s.faults
    c.args.ticket.now.number _ c.requires.at in
    let w = at_some _ is in
    sqlite_breaks true s.bound.items s.staged (state g.S.Store s.conn).now s.scans c.spoil.new.scans s.next s.pulled s.faults
    c.args.ticket.now.number _ w.0 tt w.1 (sets s.scans c.spoil.new.scans c.args.ticket.now.number
    (Some (record w.0 { broken = true })) (if_some _ _ w.0 w.1 c.spoil.ensures))

pub returns-in-Err-look_up-clause-clean_err : goal.returns-in-Err-look_up-clause-clean_err
returns-in-Err-look_up-clause-clean_err g c steady known =
    let s = c.args.self.now in
    let number = c.args.ticket.now.number in
    let honest = g.S.SourceStore.honest in
    let db = (state g.S.Store s.conn).now in
    let is = open_there honest s.bound.items s.staged db s.scans s.next s.pulled s.faults number _ c.requires.at in
    let w = at_some _ is in
    let took = sets s.scans c.take_lookup-had.new.scans number (Some (record w.0 { lookup = None }))
    (if_some _ _ w.0 w.1 c.take_lookup-had.ensures.scans) in
    let after = (state g.S.Store c.look_up.new.conn).now in
    let v = sets c.take_lookup-had.new.scans c.spoil-in-Err-look_up.new.scans number (Some (record w.0 { lookup = None; broken = true }))
    (if_some _ _ (record w.0 { lookup = None }) took.0 c.spoil-in-Err-look_up.ensures) in
    let u = sets_on s.scans c.take_lookup-had.new.scans c.spoil-in-Err-look_up.new.scans number _ _ took v in
    let sure = clean_sure g.S.Store s.conn c.look_up.new.conn (layout_at c.in-Ok.scan.table) steady c.schema-schema.ensures.live
    c.look_up.ensures.reads (known c.in-Ok.scan.table) in
    let fixed = c.look_up.ensures.reads.same sure.after sure.known in
    rw c.faults_after-self.ensures
    (breaks_by true s.bound.items s.staged db s.scans s.next number w.0 w.1 after c.spoil-in-Err-look_up.new.scans s.pulled s.faults
    c.in-Err-look_up.fault
    (record w.0 { lookup = None; broken = true }) c.in-Err-look_up.ensures.refused refl (λ yes. fixed) u)

pub returns-in-Ok-look_up-clause-clean_ok : goal.returns-in-Ok-look_up-clause-clean_ok
returns-in-Ok-look_up-clause-clean_ok g c steady known looked =
    let s = c.args.self.now in
    let number = c.args.ticket.now.number in
    let honest = g.S.SourceStore.honest in
    let db = (state g.S.Store s.conn).now in
    let is = open_there honest s.bound.items s.staged db s.scans s.next s.pulled s.faults number _ c.requires.at in
    let w = at_some _ is in
    let took = sets s.scans c.take_lookup-had.new.scans number (Some (record w.0 { lookup = None }))
    (if_some _ _ w.0 w.1 c.take_lookup-had.ensures.scans) in
    let begun = if_some _ _ w.0 w.1 c.in-Ok.ensures in
    let x = c.in-Ok-look_up.scan in
    let after = (state g.S.Store c.look_up.new.conn).now in
    let v = sets c.take_lookup-had.new.scans c.put_scan.new.scans number (Some x) c.put_scan.ensures in
    let u = sets_on s.scans c.take_lookup-had.new.scans c.put_scan.new.scans number _ _ took v in
    let may = and_parts (nat_lt w.0.table layout_count) (allows (asked_of w.0)) (s.allowed number w.0 w.1) in
    let sure = clean_sure g.S.Store s.conn c.look_up.new.conn (layout_at c.in-Ok.scan.table) steady c.schema-schema.ensures.live
    c.look_up.ensures.reads (known c.in-Ok.scan.table) in
    let fixed = c.look_up.ensures.reads.same sure.after sure.known in
    let had = had_looks db w.0 c.in-Ok.scan c.take_lookup-had.result (looked number w.0 w.1)
    (if_some _ _ w.0 w.1 c.take_lookup-had.ensures.lookup) begun.new.table in
    let answered = c.in-Ok-look_up.ensures.sure_answered sure had in
    sqlite_rescans true s.bound.items s.staged db c.in-Ok.scan w.0.table (asked_of w.0) (map datum c.args.params.now) begun may.1
    after s.scans c.put_scan.new.scans s.next s.pulled s.faults number w.0 x (λ yes. fixed) answered.shows
    (λ yes. answered_coming db c.in-Ok.scan x w.0.table (asked_of w.0) (map datum c.args.params.now) begun may.1 sure.ordered
    (answered.rows refl)) w.1 may.0 refl refl u

pub invariant_of-self : goal.invariant_of-self
invariant_of-self g c =
    let s = c.args.self.now in
    let is = open_there g.S.SourceStore.honest s.bound.items s.staged (state g.S.Store s.conn).now s.scans s.next s.pulled s.faults
    c.args.ticket.now.number _ c.requires.at in
    let w = at_some _ is in
    let u = sets s.scans c.spoil.new.scans c.args.ticket.now.number (Some (record w.0 { broken = true }))
    (if_some _ _ w.0 w.1 c.spoil.ensures) in
    record {
      shaped = s.shaped;
      counted = s.counted;
      idle = s.idle;
      typed_write = s.typed_write;
      writable = s.writable;
      apart = s.apart;
      named = s.named;
      there = s.there;
      counts = s.counts;
      few = s.few;
      allowed = keeps_allowed s.scans c.spoil.new.scans c.args.ticket.now.number _ s.allowed
          (λ z e. subst (λ (y : KeyScan). is_allowed (scan_is y) ≡ true) (same_Some _ _ e) (s.allowed c.args.ticket.now.number w.0 w.1)) u;
      fresh = keeps_fresh s.scans c.spoil.new.scans c.args.ticket.now.number s.next _ s.fresh is u;
      looked = λ h.
          let db = (state g.S.Store s.conn).now in
          keeps_looks db s.scans c.spoil.new.scans c.args.ticket.now.number _ (s.looked h)
          (looks_kept db w.0 (record w.0 { broken = true }) refl refl (s.looked h c.args.ticket.now.number w.0 w.1)) u;
    }

pub invariant_of-self-in-Err-look_up : goal.invariant_of-self-in-Err-look_up
invariant_of-self-in-Err-look_up g c =
    let s = c.args.self.now in
    let number = c.args.ticket.now.number in
    let honest = g.S.SourceStore.honest in
    let db = (state g.S.Store s.conn).now in
    let is = open_there honest s.bound.items s.staged db s.scans s.next s.pulled s.faults number _ c.requires.at in
    let w = at_some _ is in
    let took = sets s.scans c.take_lookup-had.new.scans number (Some (record w.0 { lookup = None }))
    (if_some _ _ w.0 w.1 c.take_lookup-had.ensures.scans) in
    let after = (state g.S.Store c.look_up.new.conn).now in
    let v = sets c.take_lookup-had.new.scans c.spoil-in-Err-look_up.new.scans number (Some (record w.0 { lookup = None; broken = true }))
    (if_some _ _ (record w.0 { lookup = None }) took.0 c.spoil-in-Err-look_up.ensures) in
    let u = sets_on s.scans c.take_lookup-had.new.scans c.spoil-in-Err-look_up.new.scans number _ _ took v in
    let n : KeyScan = record w.0 { lookup = None; broken = true } in
    record {
      shaped = s.shaped;
      counted = s.counted;
      idle = c.look_up.ensures.idle;
      typed_write = s.typed_write;
      writable = writable_after honest db after c.look_up.ensures.same s.writable;
      apart = apart_after honest db after c.look_up.ensures.same s.apart;
      named = s.named;
      there = there_after honest db after (option_map write_is s.staged) c.look_up.ensures.same s.there;
      counts = counts_after honest db after s.row_counts.items c.look_up.ensures.same s.counts;
      few = s.few;
      allowed = keeps_allowed s.scans c.spoil-in-Err-look_up.new.scans number _ s.allowed
          (allows_same n (record w.0 { broken = true }) refl (s.allowed number w.0 w.1)) u;
      fresh = keeps_fresh s.scans c.spoil-in-Err-look_up.new.scans number s.next _ s.fresh is u;
      looked = looks_after honest db after c.spoil-in-Err-look_up.new.scans c.look_up.ensures.same
          (λ h. keeps_looks db s.scans c.spoil-in-Err-look_up.new.scans number _ (s.looked h)
          (looks_kept db n n refl refl (looks_none db n refl)) u);
    }

pub invariant_of-self-in-Ok-look_up : goal.invariant_of-self-in-Ok-look_up
invariant_of-self-in-Ok-look_up g c =
    let s = c.args.self.now in
    let number = c.args.ticket.now.number in
    let honest = g.S.SourceStore.honest in
    let db = (state g.S.Store s.conn).now in
    let is = open_there honest s.bound.items s.staged db s.scans s.next s.pulled s.faults number _ c.requires.at in
    let w = at_some _ is in
    let took = sets s.scans c.take_lookup-had.new.scans number (Some (record w.0 { lookup = None }))
    (if_some _ _ w.0 w.1 c.take_lookup-had.ensures.scans) in
    let begun = if_some _ _ w.0 w.1 c.in-Ok.ensures in
    let x = c.in-Ok-look_up.scan in
    let after = (state g.S.Store c.look_up.new.conn).now in
    let v = sets c.take_lookup-had.new.scans c.put_scan.new.scans number (Some x) c.put_scan.ensures in
    let u = sets_on s.scans c.take_lookup-had.new.scans c.put_scan.new.scans number _ _ took v in
    let same : is_allowed (scan_is c.in-Ok.scan) ≡ true =
    subst (λ (q : ℕ). (nat_lt q layout_count && allows (asked_of c.in-Ok.scan)) ≡ true) (sym begun.new.table)
    (subst (λ (z : Spec). (nat_lt w.0.table layout_count && allows z) ≡ true) (sym begun.new.spec_is) (s.allowed number w.0 w.1)) in
    let answered = c.in-Ok-look_up.ensures.answered in
    record {
      shaped = s.shaped;
      counted = s.counted;
      idle = c.look_up.ensures.idle;
      typed_write = s.typed_write;
      writable = writable_after honest db after c.look_up.ensures.same s.writable;
      apart = apart_after honest db after c.look_up.ensures.same s.apart;
      named = s.named;
      there = there_after honest db after (option_map write_is s.staged) c.look_up.ensures.same s.there;
      counts = counts_after honest db after s.row_counts.items c.look_up.ensures.same s.counts;
      few = s.few;
      allowed = keeps_allowed s.scans c.put_scan.new.scans number _ s.allowed (allows_same x c.in-Ok.scan answered.shows same) u;
      fresh = keeps_fresh s.scans c.put_scan.new.scans number s.next _ s.fresh is u;
      looked = looks_after honest db after c.put_scan.new.scans c.look_up.ensures.same
          (λ h. keeps_looks db s.scans c.put_scan.new.scans number _ (s.looked h)
          (looks_kept db x x refl refl (answer_looks honest db c.in-Ok.scan x h answered)) u);
    }
