use Rattle.std.proofs.Common.{◌≡◌, ◌∙◌, true, nat_lt, Some, FitsSigned, w64, refl, sym, ap, subst, rules, option_map}
use Rattle.std.proofs.lemmas.Int.{to_z-of_z}
use Rattle.sqlite.specs.Held.{state}
use Rattle.wrapper_parts.specs.Staged.{write_is}
use Rattle.sqlite_wrapper.proofs.Kept.{writable_after, apart_after, there_after, counts_after}
use Rattle.fdw_api.specs.State.{Scan}
use Rattle.std.proofs.lemmas.Bool.{and_parts}
use Rattle.sqlite_tables.specs.Layouts.{layout_at, layout_count}
use Rattle.sqlite_wrapper.specs.Boxes.{allows, asked_of}
use Rattle.sqlite_tables.proofs.Clean.{clean_sure}
use Rattle.sqlite_wrapper.specs.Pages.{IsNext, passed}
use Rattle.sqlite_wrapper.proofs.Maps.{sets, sets_on}
use Rattle.sqlite_wrapper.proofs.LiveScans.{at_some, if_some, open_there, keeps_fresh, keeps_allowed}
use Rattle.sqlite_wrapper.proofs.Giving.{
  known_at,
  same_get,
  sets_copy,
  there_is,
  allows_same,
  passed_allows,
  breaks_by,
  breaks_late,
  gives_none,
  gives_row,
}
use Rattle.sqlite_wrapper.proofs.Turned.{some_if}
use Rattle.sqlite_wrapper.proofs.Looking.{looks_after, keeps_looks, looks_kept, passed_keeps}
use Rattle.sqlite_wrapper.proofs.wrapper.SqliteWrapperWrapper.iterate.Goals as goal

pub read_page-requires-clause-there : goal.read_page-requires-clause-there
read_page-requires-clause-there g c =
    let s = c.args.self.now in
    open_there g.S.SourceStore.honest s.bound.items s.staged (state g.S.Store s.conn).now s.scans s.next s.pulled s.faults
    c.args.ticket.now.number _ c.requires.1

pub read_page-requires-clause-within : goal.read_page-requires-clause-within
read_page-requires-clause-within g c =
    let s = c.args.self.now in
    let number = c.args.ticket.now.number in
    let is = open_there g.S.SourceStore.honest s.bound.items s.staged (state g.S.Store s.conn).now s.scans s.next s.pulled s.faults number
    _ c.requires.1 in
    let w = at_some _ is in
    some_if _ _ w.0 w.1 (and_parts (nat_lt w.0.table layout_count) (allows (asked_of w.0)) (s.allowed number w.0 w.1)).0

pub read_page-requires-clause-known : goal.read_page-requires-clause-known
read_page-requires-clause-known g c h =
    let s = c.args.self.now in
    let number = c.args.ticket.now.number in
    let honest = g.S.SourceStore.honest in
    let db = (state g.S.Store s.conn).now in
    let is = open_there honest s.bound.items s.staged db s.scans s.next s.pulled s.faults number _ c.requires.1 in
    let w = at_some _ is in
    some_if _ _ w.0 w.1 (known_at honest s.conn.schema w.0.table s.writable h)

pub spoil-requires : goal.spoil-requires
spoil-requires g c =
    let s = c.args.self.now in
    let number = c.args.ticket.now.number in
    let honest = g.S.SourceStore.honest in
    let db = (state g.S.Store s.conn).now in
    let is = open_there honest s.bound.items s.staged db s.scans s.next s.pulled s.faults number _ c.requires.1 in
    let w = at_some _ is in
    there_is _ w.0 (same_get s.scans c.read_page.new.scans c.in-Err.ensures.same_scans number ∙ w.1)

pub invariant_of-self : goal.invariant_of-self
invariant_of-self g c =
    let s = c.args.self.now in
    let number = c.args.ticket.now.number in
    let honest = g.S.SourceStore.honest in
    let db = (state g.S.Store s.conn).now in
    let is = open_there honest s.bound.items s.staged db s.scans s.next s.pulled s.faults number _ c.requires.1 in
    let w = at_some _ is in
    let after = (state g.S.Store c.read_page.new.conn).now in
    let u = sets_copy s.scans c.read_page.new.scans c.spoil.new.scans number (Some (record w.0 { broken = true }))
    c.in-Err.ensures.same_scans
    (sets c.read_page.new.scans c.spoil.new.scans number (Some (record w.0 { broken = true }))
    (if_some _ _ w.0 (same_get s.scans c.read_page.new.scans c.in-Err.ensures.same_scans number ∙ w.1) c.spoil.ensures)) in
    record {
      shaped = s.shaped;
      counted = s.counted;
      idle = c.read_page.ensures.idle;
      typed_write = s.typed_write;
      writable = writable_after g.S.SourceStore.honest db after c.read_page.ensures.same s.writable;
      apart = apart_after g.S.SourceStore.honest db after c.read_page.ensures.same s.apart;
      named = s.named;
      there = there_after g.S.SourceStore.honest db after (option_map write_is s.staged) c.read_page.ensures.same s.there;
      counts = counts_after g.S.SourceStore.honest db after s.row_counts.items c.read_page.ensures.same s.counts;
      few = s.few;
      allowed = keeps_allowed s.scans c.spoil.new.scans number _ s.allowed
          (allows_same (record w.0 { broken = true }) (record w.0 { broken = true }) refl (s.allowed number w.0 w.1)) u;
      fresh = keeps_fresh s.scans c.spoil.new.scans number s.next _ s.fresh is u;
      looked = looks_after honest db after c.spoil.new.scans c.read_page.ensures.same
          (λ h. keeps_looks db s.scans c.spoil.new.scans number _ (s.looked h)
          (looks_kept db w.0 (record w.0 { broken = true }) refl refl (s.looked h number w.0 w.1)) u);
    }

pub returns-in-Err-clause-err : goal.returns-in-Err-clause-err
returns-in-Err-clause-err g c =
    let s = c.args.self.now in
    let number = c.args.ticket.now.number in
    let honest = g.S.SourceStore.honest in
    let db = (state g.S.Store s.conn).now in
    let is = open_there honest s.bound.items s.staged db s.scans s.next s.pulled s.faults number _ c.requires.1 in
    let w = at_some _ is in
    let after = (state g.S.Store c.read_page.new.conn).now in
    let u = sets_copy s.scans c.read_page.new.scans c.spoil.new.scans number (Some (record w.0 { broken = true }))
    c.in-Err.ensures.same_scans
    (sets c.read_page.new.scans c.spoil.new.scans number (Some (record w.0 { broken = true }))
    (if_some _ _ w.0 (same_get s.scans c.read_page.new.scans c.in-Err.ensures.same_scans number ∙ w.1) c.spoil.ensures)) in
    rw c.faults_after-self.ensures
    (breaks_by honest s.bound.items s.staged db s.scans s.next number w.0 w.1 after c.spoil.new.scans s.pulled s.faults c.in-Err.fault
    (record w.0 { broken = true }) c.in-Err.ensures.refused refl c.read_page.ensures.same u)

pub next_of-requires-clause-there : goal.next_of-requires-clause-there
next_of-requires-clause-there g c =
    let s = c.args.self.now in
    let number = c.args.ticket.now.number in
    let honest = g.S.SourceStore.honest in
    let db = (state g.S.Store s.conn).now in
    let is = open_there honest s.bound.items s.staged db s.scans s.next s.pulled s.faults number _ c.requires.1 in
    let w = at_some _ is in
    let t = if_some _ _ w.0 w.1 c.in_default.ensures.turned in
    there_is _ t.0 t.1.0

pub next_of-requires-clause-within : goal.next_of-requires-clause-within
next_of-requires-clause-within g c =
    let s = c.args.self.now in
    let number = c.args.ticket.now.number in
    let honest = g.S.SourceStore.honest in
    let db = (state g.S.Store s.conn).now in
    let is = open_there honest s.bound.items s.staged db s.scans s.next s.pulled s.faults number _ c.requires.1 in
    let w = at_some _ is in
    let t = if_some _ _ w.0 w.1 c.in_default.ensures.turned in
    let may = and_parts (nat_lt w.0.table layout_count) (allows (asked_of w.0)) (s.allowed number w.0 w.1) in
    some_if _ _ t.0 t.1.0 (subst (λ (z : Scan). nat_lt z.table layout_count ≡ true) (sym t.2.shows) may.0)

pub spoil-requires-in-Err-next_of : goal.spoil-requires-in-Err-next_of
spoil-requires-in-Err-next_of g c =
    let s = c.args.self.now in
    let number = c.args.ticket.now.number in
    let honest = g.S.SourceStore.honest in
    let db = (state g.S.Store s.conn).now in
    let is = open_there honest s.bound.items s.staged db s.scans s.next s.pulled s.faults number _ c.requires.1 in
    let w = at_some _ is in
    let t = if_some _ _ w.0 w.1 c.in_default.ensures.turned in
    there_is _ t.0 t.1.0

pub invariant_of-self-in-Err-next_of : goal.invariant_of-self-in-Err-next_of
invariant_of-self-in-Err-next_of g c =
    let s = c.args.self.now in
    let number = c.args.ticket.now.number in
    let honest = g.S.SourceStore.honest in
    let db = (state g.S.Store s.conn).now in
    let is = open_there honest s.bound.items s.staged db s.scans s.next s.pulled s.faults number _ c.requires.1 in
    let w = at_some _ is in
    let after = (state g.S.Store c.read_page.new.conn).now in
    let t = if_some _ _ w.0 w.1 c.in_default.ensures.turned in
    let v = sets c.read_page.new.scans c.spoil-in-Err-next_of.new.scans number (Some (record t.0 { broken = true }))
    (if_some _ _ t.0 t.1.0 c.spoil-in-Err-next_of.ensures) in
    let u = sets_on s.scans c.read_page.new.scans c.spoil-in-Err-next_of.new.scans number _ _ t.1 v in
    record {
      shaped = s.shaped;
      counted = s.counted;
      idle = c.read_page.ensures.idle;
      typed_write = s.typed_write;
      writable = writable_after g.S.SourceStore.honest db after c.read_page.ensures.same s.writable;
      apart = apart_after g.S.SourceStore.honest db after c.read_page.ensures.same s.apart;
      named = s.named;
      there = there_after g.S.SourceStore.honest db after (option_map write_is s.staged) c.read_page.ensures.same s.there;
      counts = counts_after g.S.SourceStore.honest db after s.row_counts.items c.read_page.ensures.same s.counts;
      few = s.few;
      allowed = keeps_allowed s.scans c.spoil-in-Err-next_of.new.scans number _ s.allowed
          (allows_same (record t.0 { broken = true }) (record w.0 { broken = true })
          (ap (λ (z : Scan). record z { broken = true }) t.2.shows) (s.allowed number w.0 w.1)) u;
      fresh = keeps_fresh s.scans c.spoil-in-Err-next_of.new.scans number s.next _ s.fresh is u;
      looked = looks_after honest db after c.spoil-in-Err-next_of.new.scans c.read_page.ensures.same
          (λ h. keeps_looks db s.scans c.spoil-in-Err-next_of.new.scans number _ (s.looked h)
          (looks_kept db w.0 (record t.0 { broken = true }) (ap (λ (z : Scan). z.table) t.2.shows) t.2.lookup
          (s.looked h number w.0 w.1)) u);
    }

pub returns-in-Err-next_of-clause-err : goal.returns-in-Err-next_of-clause-err
returns-in-Err-next_of-clause-err g c =
    let s = c.args.self.now in
    let number = c.args.ticket.now.number in
    let honest = g.S.SourceStore.honest in
    let db = (state g.S.Store s.conn).now in
    let is = open_there honest s.bound.items s.staged db s.scans s.next s.pulled s.faults number _ c.requires.1 in
    let w = at_some _ is in
    let after = (state g.S.Store c.read_page.new.conn).now in
    let t = if_some _ _ w.0 w.1 c.in_default.ensures.turned in
    let v = sets c.read_page.new.scans c.spoil-in-Err-next_of.new.scans number (Some (record t.0 { broken = true }))
    (if_some _ _ t.0 t.1.0 c.spoil-in-Err-next_of.ensures) in
    rw c.faults_after-self-in-Err-next_of.ensures
    (breaks_late honest s.bound.items s.staged db s.scans s.next number w.0 w.1 after c.read_page.new.scans t.0 c.read_page.ensures.same
    t.1 t.2 c.spoil-in-Err-next_of.new.scans s.pulled s.faults c.in-Err-next_of.fault c.in-Err-next_of.ensures.err v)

pub invariant_of-self-in-Ok-None : goal.invariant_of-self-in-Ok-None
invariant_of-self-in-Ok-None g c =
    let s = c.args.self.now in
    let number = c.args.ticket.now.number in
    let honest = g.S.SourceStore.honest in
    let db = (state g.S.Store s.conn).now in
    let is = open_there honest s.bound.items s.staged db s.scans s.next s.pulled s.faults number _ c.requires.1 in
    let w = at_some _ is in
    let after = (state g.S.Store c.read_page.new.conn).now in
    let t = if_some _ _ w.0 w.1 c.in_default.ensures.turned in
    record {
      shaped = s.shaped;
      counted = s.counted;
      idle = c.read_page.ensures.idle;
      typed_write = s.typed_write;
      writable = writable_after g.S.SourceStore.honest db after c.read_page.ensures.same s.writable;
      apart = apart_after g.S.SourceStore.honest db after c.read_page.ensures.same s.apart;
      named = s.named;
      there = there_after g.S.SourceStore.honest db after (option_map write_is s.staged) c.read_page.ensures.same s.there;
      counts = counts_after g.S.SourceStore.honest db after s.row_counts.items c.read_page.ensures.same s.counts;
      few = s.few;
      allowed = keeps_allowed s.scans c.read_page.new.scans number _ s.allowed (allows_same t.0 w.0 t.2.shows (s.allowed number w.0 w.1))
          t.1;
      fresh = keeps_fresh s.scans c.read_page.new.scans number s.next _ s.fresh is t.1;
      looked = looks_after honest db after c.read_page.new.scans c.read_page.ensures.same
          (λ h. keeps_looks db s.scans c.read_page.new.scans number _ (s.looked h)
          (looks_kept db w.0 (t.0) (ap (λ (z : Scan). z.table) t.2.shows) t.2.lookup (s.looked h number w.0 w.1)) t.1);
    }

pub returns-in-Ok-None-clause-ok : goal.returns-in-Ok-None-clause-ok
returns-in-Ok-None-clause-ok g c =
    let s = c.args.self.now in
    let number = c.args.ticket.now.number in
    let honest = g.S.SourceStore.honest in
    let db = (state g.S.Store s.conn).now in
    let is = open_there honest s.bound.items s.staged db s.scans s.next s.pulled s.faults number _ c.requires.1 in
    let w = at_some _ is in
    let after = (state g.S.Store c.read_page.new.conn).now in
    let t = if_some _ _ w.0 w.1 c.in_default.ensures.turned in
    gives_none honest s.bound.items s.staged db s.scans s.next number w.0 w.1 after c.read_page.new.scans t.0 c.read_page.ensures.same t.1
    t.2 s.pulled s.faults (subst (IsNext t.0) c.in-Ok-None.field-0-is (if_some _ _ t.0 t.1.0 c.in-Ok-None.ensures.ok))

pub pass_row-requires-clause-there : goal.pass_row-requires-clause-there
pass_row-requires-clause-there g c =
    let s = c.args.self.now in
    let number = c.args.ticket.now.number in
    let honest = g.S.SourceStore.honest in
    let db = (state g.S.Store s.conn).now in
    let is = open_there honest s.bound.items s.staged db s.scans s.next s.pulled s.faults number _ c.requires.1 in
    let w = at_some _ is in
    let t = if_some _ _ w.0 w.1 c.in_default.ensures.turned in
    there_is _ t.0 t.1.0

pub invariant_of-self-in-Ok-Some : goal.invariant_of-self-in-Ok-Some
invariant_of-self-in-Ok-Some g c =
    let s = c.args.self.now in
    let number = c.args.ticket.now.number in
    let honest = g.S.SourceStore.honest in
    let db = (state g.S.Store s.conn).now in
    let is = open_there honest s.bound.items s.staged db s.scans s.next s.pulled s.faults number _ c.requires.1 in
    let w = at_some _ is in
    let after = (state g.S.Store c.read_page.new.conn).now in
    let t = if_some _ _ w.0 w.1 c.in_default.ensures.turned in
    let fits : FitsSigned w64 c.in-Ok-Some.next.key = search rules in
    let e = to_z-of_z w64 c.in-Ok-Some.next.key fits in
    let v = sets c.read_page.new.scans c.pass_row.new.scans number (Some (passed t.0 c.in-Ok-Some.next.key))
    (rw e at (if_some _ _ t.0 t.1.0 c.pass_row.ensures)) in
    let u = sets_on s.scans c.read_page.new.scans c.pass_row.new.scans number _ _ t.1 v in
    record {
      shaped = s.shaped;
      counted = s.counted;
      idle = c.read_page.ensures.idle;
      typed_write = s.typed_write;
      writable = writable_after g.S.SourceStore.honest db after c.read_page.ensures.same s.writable;
      apart = apart_after g.S.SourceStore.honest db after c.read_page.ensures.same s.apart;
      named = s.named;
      there = there_after g.S.SourceStore.honest db after (option_map write_is s.staged) c.read_page.ensures.same s.there;
      counts = counts_after g.S.SourceStore.honest db after s.row_counts.items c.read_page.ensures.same s.counts;
      few = s.few;
      allowed = keeps_allowed s.scans c.pass_row.new.scans number _ s.allowed
          (passed_allows t.0 w.0 c.in-Ok-Some.next.key t.2.shows (s.allowed number w.0 w.1)) u;
      fresh = keeps_fresh s.scans c.pass_row.new.scans number s.next _ s.fresh is u;
      looked = looks_after honest db after c.pass_row.new.scans c.read_page.ensures.same
          (λ h. keeps_looks db s.scans c.pass_row.new.scans number _ (s.looked h)
          (looks_kept db w.0 (passed t.0 c.in-Ok-Some.next.key)
          ((passed_keeps t.0 c.in-Ok-Some.next.key).0 ∙ ap (λ (z : Scan). z.table) t.2.shows)
          ((passed_keeps t.0 c.in-Ok-Some.next.key).1 ∙ t.2.lookup) (s.looked h number w.0 w.1)) u);
    }

pub returns-in-Ok-Some-clause-ok : goal.returns-in-Ok-Some-clause-ok
returns-in-Ok-Some-clause-ok g c =
    let s = c.args.self.now in
    let number = c.args.ticket.now.number in
    let honest = g.S.SourceStore.honest in
    let db = (state g.S.Store s.conn).now in
    let is = open_there honest s.bound.items s.staged db s.scans s.next s.pulled s.faults number _ c.requires.1 in
    let w = at_some _ is in
    let after = (state g.S.Store c.read_page.new.conn).now in
    let t = if_some _ _ w.0 w.1 c.in_default.ensures.turned in
    let fits : FitsSigned w64 c.in-Ok-Some.next.key = search rules in
    let e = to_z-of_z w64 c.in-Ok-Some.next.key fits in
    let v = sets c.read_page.new.scans c.pass_row.new.scans number (Some (passed t.0 c.in-Ok-Some.next.key))
    (rw e at (if_some _ _ t.0 t.1.0 c.pass_row.ensures)) in
    let r = gives_row honest s.bound.items s.staged db s.scans s.next number w.0 w.1 after c.read_page.new.scans t.0
    c.read_page.ensures.same t.1 t.2 c.pass_row.new.scans s.pulled s.faults c.in-Ok-Some.next
    (subst (IsNext t.0) c.in-Ok-Some.field-0-is (if_some _ _ t.0 t.1.0 c.in-Ok-Some.ensures.ok)) v in
    rw c.saturating_add-self.ensures r

pub returns-in-Err-clause-clean_err : goal.returns-in-Err-clause-clean_err
returns-in-Err-clause-clean_err g c steady known =
    let s = c.args.self.now in
    let number = c.args.ticket.now.number in
    let honest = g.S.SourceStore.honest in
    let db = (state g.S.Store s.conn).now in
    let is = open_there honest s.bound.items s.staged db s.scans s.next s.pulled s.faults number _ c.requires.1 in
    let w = at_some _ is in
    let after = (state g.S.Store c.read_page.new.conn).now in
    let reads = if_some _ _ w.0 w.1 c.read_page.ensures.reads in
    let sure = clean_sure g.S.Store s.conn c.read_page.new.conn (layout_at w.0.table) steady c.schema-schema.ensures.live reads
    (known w.0.table) in
    let fixed = reads.same sure.after sure.known in
    let u = sets_copy s.scans c.read_page.new.scans c.spoil.new.scans number (Some (record w.0 { broken = true }))
    c.in-Err.ensures.same_scans
    (sets c.read_page.new.scans c.spoil.new.scans number (Some (record w.0 { broken = true }))
    (if_some _ _ w.0 (same_get s.scans c.read_page.new.scans c.in-Err.ensures.same_scans number ∙ w.1) c.spoil.ensures)) in
    rw c.faults_after-self.ensures
    (breaks_by true s.bound.items s.staged db s.scans s.next number w.0 w.1 after c.spoil.new.scans s.pulled s.faults c.in-Err.fault
    (record w.0 { broken = true }) c.in-Err.ensures.refused refl (λ yes. fixed) u)

pub returns-in-Err-next_of-clause-clean_err : goal.returns-in-Err-next_of-clause-clean_err
returns-in-Err-next_of-clause-clean_err g c steady known =
    let s = c.args.self.now in
    let number = c.args.ticket.now.number in
    let honest = g.S.SourceStore.honest in
    let db = (state g.S.Store s.conn).now in
    let is = open_there honest s.bound.items s.staged db s.scans s.next s.pulled s.faults number _ c.requires.1 in
    let w = at_some _ is in
    let after = (state g.S.Store c.read_page.new.conn).now in
    let reads = if_some _ _ w.0 w.1 c.read_page.ensures.reads in
    let sure = clean_sure g.S.Store s.conn c.read_page.new.conn (layout_at w.0.table) steady c.schema-schema.ensures.live reads
    (known w.0.table) in
    let fixed = reads.same sure.after sure.known in
    let t = if_some _ _ w.0 w.1 c.in_default.ensures.sure_turned sure in
    let v = sets c.read_page.new.scans c.spoil-in-Err-next_of.new.scans number (Some (record t.0 { broken = true }))
    (if_some _ _ t.0 t.1.0 c.spoil-in-Err-next_of.ensures) in
    rw c.faults_after-self-in-Err-next_of.ensures
    (breaks_late true s.bound.items s.staged db s.scans s.next number w.0 w.1 after c.read_page.new.scans t.0 (λ yes. fixed) t.1 t.2
    c.spoil-in-Err-next_of.new.scans s.pulled s.faults c.in-Err-next_of.fault c.in-Err-next_of.ensures.err v)

pub returns-in-Ok-None-clause-clean_ok : goal.returns-in-Ok-None-clause-clean_ok
returns-in-Ok-None-clause-clean_ok g c steady known =
    let s = c.args.self.now in
    let number = c.args.ticket.now.number in
    let honest = g.S.SourceStore.honest in
    let db = (state g.S.Store s.conn).now in
    let is = open_there honest s.bound.items s.staged db s.scans s.next s.pulled s.faults number _ c.requires.1 in
    let w = at_some _ is in
    let after = (state g.S.Store c.read_page.new.conn).now in
    let reads = if_some _ _ w.0 w.1 c.read_page.ensures.reads in
    let sure = clean_sure g.S.Store s.conn c.read_page.new.conn (layout_at w.0.table) steady c.schema-schema.ensures.live reads
    (known w.0.table) in
    let fixed = reads.same sure.after sure.known in
    let t = if_some _ _ w.0 w.1 c.in_default.ensures.sure_turned sure in
    gives_none true s.bound.items s.staged db s.scans s.next number w.0 w.1 after c.read_page.new.scans t.0 (λ yes. fixed) t.1 t.2
    s.pulled s.faults (subst (IsNext t.0) c.in-Ok-None.field-0-is (if_some _ _ t.0 t.1.0 c.in-Ok-None.ensures.ok))

pub returns-in-Ok-Some-clause-clean_ok : goal.returns-in-Ok-Some-clause-clean_ok
returns-in-Ok-Some-clause-clean_ok g c steady known =
    let s = c.args.self.now in
    let number = c.args.ticket.now.number in
    let honest = g.S.SourceStore.honest in
    let db = (state g.S.Store s.conn).now in
    let is = open_there honest s.bound.items s.staged db s.scans s.next s.pulled s.faults number _ c.requires.1 in
    let w = at_some _ is in
    let after = (state g.S.Store c.read_page.new.conn).now in
    let reads = if_some _ _ w.0 w.1 c.read_page.ensures.reads in
    let sure = clean_sure g.S.Store s.conn c.read_page.new.conn (layout_at w.0.table) steady c.schema-schema.ensures.live reads
    (known w.0.table) in
    let fixed = reads.same sure.after sure.known in
    let t = if_some _ _ w.0 w.1 c.in_default.ensures.sure_turned sure in
    let fits : FitsSigned w64 c.in-Ok-Some.next.key = search rules in
    let e = to_z-of_z w64 c.in-Ok-Some.next.key fits in
    let v = sets c.read_page.new.scans c.pass_row.new.scans number (Some (passed t.0 c.in-Ok-Some.next.key))
    (rw e at (if_some _ _ t.0 t.1.0 c.pass_row.ensures)) in
    let r = gives_row true s.bound.items s.staged db s.scans s.next number w.0 w.1 after c.read_page.new.scans t.0 (λ yes. fixed) t.1 t.2
    c.pass_row.new.scans s.pulled s.faults c.in-Ok-Some.next
    (subst (IsNext t.0) c.in-Ok-Some.field-0-is (if_some _ _ t.0 t.1.0 c.in-Ok-Some.ensures.ok)) v in
    rw c.saturating_add-self.ensures r
