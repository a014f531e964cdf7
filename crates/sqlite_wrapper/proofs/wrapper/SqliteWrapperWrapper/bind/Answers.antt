use Rattle.std.proofs.Common.{◌∙◌, true, sym, ap, subst, length, rules, option_map}
use Rattle.sqlite.specs.Held.{state}
use Rattle.wrapper_parts.specs.Staged.{write_is}
use Rattle.sqlite.specs.Effect.{Database}
use Rattle.sqlite_tables.specs.Prelude.{layout_at, rows_of}
use Rattle.sqlite_tables.proofs.Clean.{clean_sure}
use Rattle.sqlite_tables.proofs.Refused.{both_only}
use Rattle.sqlite_wrapper.specs.Boxes.{rows_at}
use Rattle.sqlite_wrapper.specs.Counts.{AreCounts, AreFew}
use Rattle.sqlite_wrapper.proofs.Counted.{put_counts, put_few}
use Rattle.sqlite_wrapper.proofs.Kept.{within_count, writable_after, apart_after, there_after, counts_after}
use Rattle.sqlite_wrapper.proofs.Binding.{place_within, sqlite_binds, sqlite_refuses, sqlite_lacks}
use Rattle.sqlite_wrapper.proofs.Giving.{known_at}
use Rattle.sqlite_wrapper.proofs.Looking.{looks_after}
use Rattle.sqlite_wrapper.proofs.wrapper.SqliteWrapperWrapper.bind.Goals as goal

pub returns-in_default-clause-err : goal.returns-in_default-clause-err
returns-in_default-clause-err g c =
    let s = c.args.self.now in
    sqlite_lacks g.S.SourceStore.honest (state g.S.Store s.conn).now s.bound.items s.scans s.staged s.next s.pulled s.faults _ _ _
    (sym c.number_of.ensures ∙ c.in_default.is)

pub open_table-requires-clause-within : goal.open_table-requires-clause-within
open_table-requires-clause-within g c =
    let s = c.args.self.now in
    within_count c.in-Some.number s.bound.items s.counted (place_within s.bound.items c.args.remote.now c.in-Some.number s.counted
    (sym c.number_of.ensures ∙ c.in-Some.is))

pub open_table-requires-clause-known : goal.open_table-requires-clause-known
open_table-requires-clause-known g c h =
    let s = c.args.self.now in
    known_at g.S.SourceStore.honest s.conn.schema c.in-Some.number s.writable h

pub invariant_of-self : goal.invariant_of-self
invariant_of-self g c =
    let s = c.args.self.now in
    record {
      shaped = s.shaped;
      counted = s.counted;
      idle = s.idle;
      typed_write = s.typed_write;
      writable = s.writable;
      apart = s.apart;
      named = s.named;
      there = s.there;
      counts = s.counts;
      few = s.few;
      allowed = s.allowed;
      fresh = s.fresh;
      looked = s.looked;
    }

pub invariant_of-self-in-Err : goal.invariant_of-self-in-Err
invariant_of-self-in-Err g c =
    let s = c.args.self.now in
    let db = (state g.S.Store s.conn).now in
    let after = (state g.S.Store c.open_table.new.conn).now in
    record {
      shaped = s.shaped;
      counted = s.counted;
      idle = c.open_table.ensures.idle;
      typed_write = s.typed_write;
      writable = writable_after g.S.SourceStore.honest db after c.open_table.ensures.same s.writable;
      apart = apart_after g.S.SourceStore.honest db after c.open_table.ensures.same s.apart;
      named = s.named;
      there = there_after g.S.SourceStore.honest db after (option_map write_is s.staged) c.open_table.ensures.same s.there;
      counts = counts_after g.S.SourceStore.honest db after s.row_counts.items c.open_table.ensures.same s.counts;
      few = s.few;
      allowed = s.allowed;
      fresh = s.fresh;
      looked = looks_after g.S.SourceStore.honest db after s.scans c.open_table.ensures.same s.looked;
    }

pub returns-in-Err-clause-err : goal.returns-in-Err-clause-err
returns-in-Err-clause-err g c =
    let s = c.args.self.now in
    let db = (state g.S.Store s.conn).now in
    let after = (state g.S.Store c.open_table.new.conn).now in
    rw c.faults_after-self.ensures
    (sqlite_refuses g.S.SourceStore.honest db after s.bound.items s.scans s.staged s.next s.pulled s.faults _ _ _
    c.open_table.ensures.same c.in-Some.number c.in-Err.fault
    (sym c.number_of.ensures ∙ c.in-Some.is) c.in-Err.ensures.refused)

pub index_mut-requires : goal.index_mut-requires
index_mut-requires g c =
    let s = c.args.self.now in
    let lt = place_within s.bound.items c.args.remote.now c.in-Some.number s.counted (sym c.number_of.ensures ∙ c.in-Some.is) in
    search rules

pub invariant_of-self-2 : goal.invariant_of-self-2
invariant_of-self-2 g c =
    let s = c.args.self.now in
    let db = (state g.S.Store s.conn).now in
    let after = (state g.S.Store c.open_table.new.conn).now in
    let place = sym c.number_of.ensures ∙ c.in-Some.is in
    let lt = place_within s.bound.items c.args.remote.now c.in-Some.number s.counted place in
    let within = within_count c.in-Some.number s.bound.items s.counted lt in
    record {
      shaped = s.shaped;
      counted = search rules;
      idle = c.open_table.ensures.idle;
      typed_write = s.typed_write;
      writable = writable_after g.S.SourceStore.honest db after c.open_table.ensures.same s.writable;
      apart = apart_after g.S.SourceStore.honest db after c.open_table.ensures.same s.apart;
      named = s.named;
      there = there_after g.S.SourceStore.honest db after (option_map write_is s.staged) c.open_table.ensures.same s.there;
      counts = λ h. subst (AreCounts after) (sym c.put_count.ensures)
          (put_counts db after s.row_counts.items c.in-Some.number c.in-Ok.count (s.counts h) within
          (c.in-Ok.ensures.count h ∙ ap (λ (d : Database). length (rows_of d (layout_at c.in-Some.number)))
          (sym (c.open_table.ensures.same h)))
          (λ q ne. ap (λ (d : Database). rows_at d q) (c.open_table.ensures.same h)));
      few = subst AreFew (sym c.put_count.ensures) (put_few s.row_counts.items c.in-Some.number c.in-Ok.count s.few c.in-Ok.ensures.few);
      allowed = s.allowed;
      fresh = s.fresh;
      looked = looks_after g.S.SourceStore.honest db after s.scans c.open_table.ensures.same s.looked;
    }

pub returns-clause-ok : goal.returns-clause-ok
returns-clause-ok g c =
    let s = c.args.self.now in
    let db = (state g.S.Store s.conn).now in
    let after = (state g.S.Store c.open_table.new.conn).now in
    let place = sym c.number_of.ensures ∙ c.in-Some.is in
    let lt = place_within s.bound.items c.args.remote.now c.in-Some.number s.counted place in
    sqlite_binds g.S.SourceStore.honest db after s.bound.items s.scans s.staged s.next s.pulled s.faults _ _ _ c.open_table.ensures.same
    c.in-Some.number lt (within_count c.in-Some.number s.bound.items s.counted lt) c.requires place
    c.in-Ok.ensures.types c.in-Ok.ensures.ok c.in-Ok.ensures.once

pub returns-in_default-clause-clean_err : goal.returns-in_default-clause-clean_err
returns-in_default-clause-clean_err g c steady known =
    let s = c.args.self.now in
    sqlite_lacks true (state g.S.Store s.conn).now s.bound.items s.scans s.staged s.next s.pulled s.faults _ _ _
    (sym c.number_of.ensures ∙ c.in_default.is)

pub returns-in-Err-clause-clean_err : goal.returns-in-Err-clause-clean_err
returns-in-Err-clause-clean_err g c steady known =
    let s = c.args.self.now in
    let db = (state g.S.Store s.conn).now in
    let after = (state g.S.Store c.open_table.new.conn).now in
    let reads = c.open_table.ensures.reads in
    let sure = clean_sure g.S.Store s.conn c.open_table.new.conn (layout_at c.in-Some.number) steady c.schema-schema.ensures.live reads
    (known c.in-Some.number) in
    rw c.faults_after-self.ensures
    (sqlite_refuses true db after s.bound.items s.scans s.staged s.next s.pulled s.faults _ _ _ (λ yes. reads.same sure.after sure.known)
    c.in-Some.number c.in-Err.fault
    (sym c.number_of.ensures ∙ c.in-Some.is)
    (both_only _ _ _ c.in-Err.fault (λ cause late least. (late.0, λ yes. least sure)) c.in-Err.ensures.refused
    c.in-Err.ensures.sure_refused))

pub returns-clause-clean_ok : goal.returns-clause-clean_ok
returns-clause-clean_ok g c steady known =
    let s = c.args.self.now in
    let db = (state g.S.Store s.conn).now in
    let after = (state g.S.Store c.open_table.new.conn).now in
    let place = sym c.number_of.ensures ∙ c.in-Some.is in
    let lt = place_within s.bound.items c.args.remote.now c.in-Some.number s.counted place in
    let reads = c.open_table.ensures.reads in
    let sure = clean_sure g.S.Store s.conn c.open_table.new.conn (layout_at c.in-Some.number) steady c.schema-schema.ensures.live reads
    (known c.in-Some.number) in
    sqlite_binds true db after s.bound.items s.scans s.staged s.next s.pulled s.faults _ _ _ (λ yes. reads.same sure.after sure.known)
    c.in-Some.number lt
    (within_count c.in-Some.number s.bound.items s.counted lt) (record { free = c.requires.free; no_objection = c.requires.no_objection })
    place
    c.in-Ok.ensures.types (λ yes. c.in-Ok.ensures.sure_ok sure) (λ yes. c.in-Ok.ensures.sure_once sure)
