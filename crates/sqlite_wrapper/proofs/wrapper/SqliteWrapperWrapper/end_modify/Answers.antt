use Rattle.std.proofs.Common.{◌≡◌, ◌∙◌, Bool, true, Option, None, Some, IsTrue, option_map, map, refl, sym, ap, subst}
use Rattle.sqlite.specs.Held.{state}
use Rattle.sqlite.specs.Schema.{Schema}
use Rattle.fdw_api.specs.Prelude.{faults_after, CanClose, Closes, RefusesClose, Staging}
use Rattle.std.proofs.Math.Logic.{∥∥₁_map}
use Rattle.wrapper_parts.specs.Staged.{change_is, write_is}
use Rattle.sqlite_tables.specs.Layouts.{layout_at}
use Rattle.sqlite_tables.proofs.Refused.{both_only}
use Rattle.sqlite_writes.proofs.Changed.{entries_ordered}
use Rattle.wrapper_parts.specs.declared.changes.StagedWrite.{StagedWrite}
use Rattle.sqlite_writes.proofs.Named.{none_named}
use Rattle.sqlite_writes.specs.Writable.{AreApart, IsSureWrite, IsWritable}
use Rattle.sqlite_wrapper.specs.Changes.{NamesOnce, names_rows, write_fits}
use Rattle.sqlite_wrapper.specs.Boxes.{sqlite_state}
use Rattle.sqlite_wrapper.specs.Clean.{IsSureChange}
use Rattle.sqlite_wrapper.specs.Counts.{AreCounts, AreFew, held_for}
use Rattle.sqlite_wrapper.specs.Failing.{FailsToWrite}
use Rattle.sqlite_wrapper.proofs.Failures.{of_write}
use Rattle.sqlite_wrapper.proofs.Looking.{looks_after}
use Rattle.sqlite_wrapper.proofs.Closing.{same_rows, looks_closed, sqlite_closes, sqlite_keeps, within}
use Rattle.sqlite_wrapper.proofs.Counted.{forget_counts, forget_few, held_few, held_is, put_counts, put_few}
use Rattle.sqlite_wrapper.proofs.Kept.{counts_after}
use Rattle.sqlite_wrapper.proofs.Giving.{known_at, known_by}
use Rattle.sqlite_wrapper.proofs.wrapper.SqliteWrapperWrapper.end_modify.Goals as goal

pub invariant_of-self : goal.invariant_of-self
invariant_of-self g c =
    let s = c.args.self.now in
    record {
      shaped = s.shaped;
      counted = s.counted;
      idle = s.idle;
      writable = s.writable;
      apart = s.apart;
      named = subst NamesOnce (sym (ap (option_map write_is) c.take.ensures.after)) none_named;
      there = λ h. subst (λ (o : Option StagedWrite). names_rows (state g.S.Store s.conn).now (option_map write_is o) ≡ true)
          (sym c.take.ensures.after) refl;
      typed_write = subst (λ (o : Option StagedWrite). IsTrue (write_fits (option_map write_is o))) (sym c.take.ensures.after) refl;
      counts = s.counts;
      few = s.few;
      allowed = s.allowed;
      fresh = s.fresh;
      looked = s.looked;
    }

pub write_rows-requires-clause-within : goal.write_rows-requires-clause-within
write_rows-requires-clause-within g c =
    let s = c.args.self.now in
    let honest = g.S.SourceStore.honest in
    let db = (state g.S.Store s.conn).now in
    let can = subst (CanClose (sqlite_state honest db s.bound.items s.scans s.staged s.next s.pulled s.faults)) c.if-not-keep.false
    c.requires in
    let is : s.staged ≡ Some c.in-Some.write = sym c.take.ensures.value ∙ c.in-Some.is in
    within honest db db s.bound.items s.scans s.staged s.next s.pulled s.faults c.in-Some.write s.counted is can

pub write_rows-requires-clause-known : goal.write_rows-requires-clause-known
write_rows-requires-clause-known g c h =
    let s = c.args.self.now in
    known_at g.S.SourceStore.honest s.conn.schema c.in-Some.write.table s.writable h

pub write_rows-requires-clause-held : goal.write_rows-requires-clause-held
write_rows-requires-clause-held g c h =
    let s = c.args.self.now in
    let honest = g.S.SourceStore.honest in
    let db = (state g.S.Store s.conn).now in
    let can = subst (CanClose (sqlite_state honest db s.bound.items s.scans s.staged s.next s.pulled s.faults)) c.if-not-keep.false
    c.requires in
    let is : s.staged ≡ Some c.in-Some.write = sym c.take.ensures.value ∙ c.in-Some.is in
    held_is db s.row_counts.items c.in-Some.write.table c.count_of-held.result (s.counts h)
    (within honest db db s.bound.items s.scans s.staged s.next s.pulled s.faults c.in-Some.write s.counted is can)
    (c.count_of-held.ensures ∙ ap (λ cs. held_for cs c.in-Some.write.table) c.deref.ensures.value)

pub write_rows-requires-clause-few : goal.write_rows-requires-clause-few
write_rows-requires-clause-few g c =
    held_few c.args.self.now.row_counts.items c.in-Some.write.table c.count_of-held.result c.args.self.now.few
    (c.count_of-held.ensures ∙ ap (λ cs. held_for cs c.in-Some.write.table) c.deref.ensures.value)

pub invariant_of-self-in-Ok : goal.invariant_of-self-in-Ok
invariant_of-self-in-Ok g c =
    let s = c.args.self.now in
    let honest = g.S.SourceStore.honest in
    let db = (state g.S.Store s.conn).now in
    let after = (state g.S.Store c.write_rows.new.conn).now in
    let can = subst (CanClose (sqlite_state honest db s.bound.items s.scans s.staged s.next s.pulled s.faults)) c.if-not-keep.false
    c.requires in
    let is : s.staged ≡ Some c.in-Some.write = sym c.take.ensures.value ∙ c.in-Some.is in
    record {
      shaped = s.shaped;
      counted = s.counted;
      idle = c.write_rows.ensures.idle;
      writable = λ t h. subst (λ (k : Schema). ∥ IsWritable k (layout_at t) ∥₁) (sym (c.write_rows.ensures.schema h)) (s.writable t h);
      apart = λ h. subst AreApart (sym (c.write_rows.ensures.schema h)) (s.apart h);
      named = subst NamesOnce (sym (ap (option_map write_is) c.take.ensures.after)) none_named;
      there = λ h. subst (λ (o : Option StagedWrite). names_rows (state g.S.Store c.write_rows.new.conn).now (option_map write_is o)
          ≡ true) (sym c.take.ensures.after) refl;
      typed_write = subst (λ (o : Option StagedWrite). IsTrue (write_fits (option_map write_is o))) (sym c.take.ensures.after) refl;
      counts = λ h. subst (AreCounts after) (sym c.put_count.ensures)
          (put_counts db after s.row_counts.items c.in-Some.write.table c.in-Ok.count (s.counts h)
          (within honest db after s.bound.items s.scans s.staged s.next s.pulled s.faults c.in-Some.write s.counted is can)
          (c.in-Ok.ensures.count h)
          (λ q ne. same_rows honest db after s.bound.items s.scans s.staged s.next s.pulled s.faults c.in-Some.write s.counted is can
          (c.in-Ok.ensures.made h) (s.apart h)
          (λ u. known_at honest s.conn.schema u s.writable h) s.allowed q ne));
      few = subst AreFew (sym c.put_count.ensures) (put_few s.row_counts.items c.in-Some.write.table c.in-Ok.count s.few
          c.in-Ok.ensures.few);
      allowed = s.allowed;
      fresh = s.fresh;
      looked = λ h. looks_closed honest db after s.bound.items s.scans s.staged s.next s.pulled s.faults c.in-Some.write s.counted is can
          (c.in-Ok.ensures.made h) (s.apart h)
          (λ u. known_at honest s.conn.schema u s.writable h) s.allowed (s.looked h);
    }

pub invariant_of-self-in-Err : goal.invariant_of-self-in-Err
invariant_of-self-in-Err g c =
    let s = c.args.self.now in
    let honest = g.S.SourceStore.honest in
    let db = (state g.S.Store s.conn).now in
    let after = (state g.S.Store c.write_rows.new.conn).now in
    record {
      shaped = s.shaped;
      counted = s.counted;
      idle = c.write_rows.ensures.idle;
      writable = λ t h. subst (λ (k : Schema). ∥ IsWritable k (layout_at t) ∥₁) (sym (c.write_rows.ensures.schema h)) (s.writable t h);
      apart = λ h. subst AreApart (sym (c.write_rows.ensures.schema h)) (s.apart h);
      named = subst NamesOnce (sym (ap (option_map write_is) c.take.ensures.after)) none_named;
      there = λ h. subst (λ (o : Option StagedWrite). names_rows (state g.S.Store c.write_rows.new.conn).now (option_map write_is o)
          ≡ true) (sym c.take.ensures.after) refl;
      typed_write = subst (λ (o : Option StagedWrite). IsTrue (write_fits (option_map write_is o))) (sym c.take.ensures.after) refl;
      counts = λ h. counts_after honest db after c.forget_count.new.counts.items c.in-Err.ensures.same
          (λ same. forget_counts db s.row_counts.items c.forget_count.new.counts.items c.forget_count.ensures (s.counts same)) h;
      few = forget_few s.row_counts.items c.forget_count.new.counts.items c.forget_count.ensures s.few;
      allowed = s.allowed;
      fresh = s.fresh;
      looked = looks_after honest db after s.scans c.in-Err.ensures.same s.looked;
    }

pub returns-in-Ok-clause-ok : goal.returns-in-Ok-clause-ok
returns-in-Ok-clause-ok g c =
    let s = c.args.self.now in
    let honest = g.S.SourceStore.honest in
    let db = (state g.S.Store s.conn).now in
    let after = (state g.S.Store c.write_rows.new.conn).now in
    let keep : c.args.keep ≡ true = c.if-not-keep.false in
    let old = sqlite_state honest db s.bound.items s.scans s.staged s.next s.pulled s.faults in
    let can = subst (λ (k : Bool). CanClose old k) keep c.requires in
    let is : s.staged ≡ Some c.in-Some.write = sym c.take.ensures.value ∙ c.in-Some.is in
    let closes = sqlite_closes honest db after s.bound.items s.scans s.staged s.next s.pulled s.faults c.in-Some.write s.counted is can
    c.in-Ok.ensures.made s.apart
    (λ u. known_at honest s.conn.schema u s.writable) s.allowed in
    subst (λ (o : Option StagedWrite). Closes old c.args.keep
    (sqlite_state honest after s.bound.items s.scans o s.next s.pulled s.faults)) (sym c.take.ensures.after)
    (subst (λ (k : Bool). Closes old k (sqlite_state honest after s.bound.items s.scans None s.next s.pulled s.faults)) (sym keep) closes)

pub returns-in-Err-clause-err : goal.returns-in-Err-clause-err
returns-in-Err-clause-err g c =
    let s = c.args.self.now in
    let honest = g.S.SourceStore.honest in
    let db = (state g.S.Store s.conn).now in
    let after = (state g.S.Store c.write_rows.new.conn).now in
    let keep : c.args.keep ≡ true = c.if-not-keep.false in
    let old = sqlite_state honest db s.bound.items s.scans s.staged s.next s.pulled s.faults in
    let can = subst (λ (k : Bool). CanClose old k) keep c.requires in
    let is : s.staged ≡ Some c.in-Some.write = sym c.take.ensures.value ∙ c.in-Some.is in
    let fault = c.in-Err.fault in
    let keeps = sqlite_keeps honest db after s.bound.items s.scans s.staged s.next s.pulled s.faults c.in-Some.write s.counted is can
    fault c.in-Err.ensures.same c.in-Err.ensures.refused in
    rw c.faults_after-self.ensures
    (subst (λ (o : Option StagedWrite). RefusesClose old c.args.keep fault
    (sqlite_state honest after s.bound.items s.scans o s.next s.pulled (faults_after fault s.faults))) (sym c.take.ensures.after)
    (subst (λ (k : Bool). RefusesClose old k fault (sqlite_state honest after s.bound.items s.scans None s.next s.pulled
    (faults_after fault s.faults))) (sym keep) keeps))

pub returns-in-Ok-clause-clean_ok : goal.returns-in-Ok-clause-clean_ok
returns-in-Ok-clause-clean_ok g c before steady may =
    let s = c.args.self.now in
    let honest = g.S.SourceStore.honest in
    let db = (state g.S.Store s.conn).now in
    let after = (state g.S.Store c.write_rows.new.conn).now in
    let write = c.in-Some.write in
    let keep : c.args.keep ≡ true = c.if-not-keep.false in
    let old = sqlite_state true db s.bound.items s.scans s.staged s.next s.pulled s.faults in
    let may_close = subst (λ (k : Bool). CanClose (sqlite_state honest db s.bound.items s.scans s.staged s.next s.pulled s.faults) k) keep
    c.requires in
    let can : CanClose old true = record {
      staging = may_close.staging;
      is_staged = may_close.is_staged;
      is_bound = may_close.is_bound;
      whole = may_close.whole;
      no_scan = may_close.no_scan;
    } in
    let is : s.staged ≡ Some write = sym c.take.ensures.value ∙ c.in-Some.is in
    let sure : IsSureWrite (state g.S.Store s.conn) (state g.S.Store c.write_rows.new.conn) (layout_at write.table) = record {
      after = record { clean = steady.clean; is_open = steady.is_open };
      writable = may.texts write.table;
      ordered = entries_ordered g.S.Store s.conn (layout_at write.table) before c.schema-schema.ensures.live (may.texts write.table);
    } in
    let change : IsSureChange (state g.S.Store s.conn) (state g.S.Store c.write_rows.new.conn) (layout_at write.table)
    c.count_of-held.result (map change_is write.changes.items) = record {
      sure = sure;
      there = subst (λ (o : Option StagedWrite). names_rows db (option_map write_is o) ≡ true) is may.there;
      count = held_is db s.row_counts.items write.table c.count_of-held.result may.counts_are
          (within true db db s.bound.items s.scans s.staged s.next s.pulled s.faults write s.counted is can)
          (c.count_of-held.ensures ∙ ap (λ cs. held_for cs write.table) c.deref.ensures.value);
    } in
    let closes = sqlite_closes true db after s.bound.items s.scans s.staged s.next s.pulled s.faults write s.counted is can
    (λ yes. c.in-Ok.ensures.sure_made change) (λ yes. may.apart)
    (λ u yes. ∥∥₁_map (may.texts u) (known_by db.schema (layout_at u))) s.allowed in
    subst (λ (o : Option StagedWrite). Closes old c.args.keep (sqlite_state true after s.bound.items s.scans o s.next s.pulled s.faults))
    (sym c.take.ensures.after)
    (subst (λ (k : Bool). Closes old k (sqlite_state true after s.bound.items s.scans None s.next s.pulled s.faults)) (sym keep) closes)

pub returns-in-Err-clause-clean_err : goal.returns-in-Err-clause-clean_err
returns-in-Err-clause-clean_err g c before steady may =
    let s = c.args.self.now in
    let honest = g.S.SourceStore.honest in
    let db = (state g.S.Store s.conn).now in
    let after = (state g.S.Store c.write_rows.new.conn).now in
    let write = c.in-Some.write in
    let keep : c.args.keep ≡ true = c.if-not-keep.false in
    let old = sqlite_state true db s.bound.items s.scans s.staged s.next s.pulled s.faults in
    let may_close = subst (λ (k : Bool). CanClose (sqlite_state honest db s.bound.items s.scans s.staged s.next s.pulled s.faults) k) keep
    c.requires in
    let can : CanClose old true = record {
      staging = may_close.staging;
      is_staged = may_close.is_staged;
      is_bound = may_close.is_bound;
      whole = may_close.whole;
      no_scan = may_close.no_scan;
    } in
    let is : s.staged ≡ Some write = sym c.take.ensures.value ∙ c.in-Some.is in
    let sure : IsSureWrite (state g.S.Store s.conn) (state g.S.Store c.write_rows.new.conn) (layout_at write.table) = record {
      after = record { clean = steady.clean; is_open = steady.is_open };
      writable = may.texts write.table;
      ordered = entries_ordered g.S.Store s.conn (layout_at write.table) before c.schema-schema.ensures.live (may.texts write.table);
    } in
    let change : IsSureChange (state g.S.Store s.conn) (state g.S.Store c.write_rows.new.conn) (layout_at write.table)
    c.count_of-held.result (map change_is write.changes.items) = record {
      sure = sure;
      there = subst (λ (o : Option StagedWrite). names_rows db (option_map write_is o) ≡ true) is may.there;
      count = held_is db s.row_counts.items write.table c.count_of-held.result may.counts_are
          (within true db db s.bound.items s.scans s.staged s.next s.pulled s.faults write s.counted is can)
          (c.count_of-held.ensures ∙ ap (λ cs. held_for cs write.table) c.deref.ensures.value);
    } in
    let fault = c.in-Err.fault in
    let keeps = sqlite_keeps true db after s.bound.items s.scans s.staged s.next s.pulled s.faults write s.counted is can fault
    (λ yes. c.in-Err.ensures.sure_same sure)
    (both_only _ _ _ fault (λ cause by stands. (by.0, λ yes. stands change)) c.in-Err.ensures.refused c.in-Err.ensures.sure_refused) in
    rw c.faults_after-self.ensures
    (subst (λ (o : Option StagedWrite). RefusesClose old c.args.keep fault
    (sqlite_state true after s.bound.items s.scans o s.next s.pulled (faults_after fault s.faults))) (sym c.take.ensures.after)
    (subst (λ (k : Bool). RefusesClose old k fault (sqlite_state true after s.bound.items s.scans None s.next s.pulled
    (faults_after fault s.faults))) (sym keep) keeps))

pub returns-in-Err-clause-reported : goal.returns-in-Err-clause-reported
returns-in-Err-clause-reported g c h =
    let s = c.args.self.now in
    of_write s.staged write_is c.in-Some.write
    (λ (w : Staging). FailsToWrite g.S.Store g.S.SourceStore.honest (layout_at w.table) w.changes s.watch c.write_rows.new.watch
    s.conn c.write_rows.new.conn c.in-Err.fault)
    (sym c.take.ensures.value ∙ c.in-Some.is) (c.in-Err.ensures.reported h)

pub returns-in-Err-clause-clean_reported : goal.returns-in-Err-clause-clean_reported
returns-in-Err-clause-clean_reported g c before steady texts =
    let s = c.args.self.now in
    let write = c.in-Some.write in
    let sure : IsSureWrite (state g.S.Store s.conn) (state g.S.Store c.write_rows.new.conn) (layout_at write.table) = record {
      after = record { clean = steady.clean; is_open = steady.is_open };
      writable = texts write.table;
      ordered = entries_ordered g.S.Store s.conn (layout_at write.table) before c.schema-schema.ensures.live (texts write.table);
    } in
    of_write s.staged write_is write
    (λ (w : Staging). FailsToWrite g.S.Store g.S.SourceStore.honest (layout_at w.table) w.changes s.watch c.write_rows.new.watch
    s.conn c.write_rows.new.conn c.in-Err.fault)
    (sym c.take.ensures.value ∙ c.in-Some.is) (c.in-Err.ensures.sure_reported sure)
