use Rattle.med_value.specs.Datum.{tuple}
use Rattle.fdw_api.specs.Kinds.{Updates}
use Rattle.sqlite.specs.Held.{state}
use Rattle.sqlite_wrapper.proofs.Staged.{typed_after, named_after, there_more}
use Rattle.sqlite_wrapper.proofs.wrapper.SqliteWrapperWrapper.update.Goals as goal

pub invariant_of-self : goal.invariant_of-self
invariant_of-self g c =
    let s = c.args.self.now in
    record {
      shaped = s.shaped;
      counted = s.counted;
      idle = s.idle;
      typed_write = typed_after g.S.SourceStore.honest (state g.S.Store s.conn).now s.bound.items s.scans s.staged s.next s.pulled
          s.faults (Updates c.args.id.number (tuple c.args.row)) c.requires c.add_change.result c.add_change.new.staged s.typed_write
          c.add_change.ensures.ok c.add_change.ensures.err;
      writable = s.writable;
      apart = s.apart;
      named = named_after g.S.SourceStore.honest (state g.S.Store s.conn).now s.bound.items s.scans s.staged s.next s.pulled s.faults
          (Updates c.args.id.number (tuple c.args.row)) c.requires c.first_changes_name_once.ensures.more c.add_change.result
          c.add_change.new.staged s.named c.add_change.ensures.ok c.add_change.ensures.err;
      there = there_more g.S.SourceStore.honest (state g.S.Store s.conn).now s.bound.items s.scans s.staged s.next s.pulled s.faults
          (Updates c.args.id.number (tuple c.args.row)) c.requires s.counted c.add_change.result c.add_change.new.staged s.there
          c.add_change.ensures.ok c.add_change.ensures.err;
      counts = s.counts;
      few = s.few;
      allowed = s.allowed;
      fresh = s.fresh;
      looked = s.looked;
    }
