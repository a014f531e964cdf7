use Rattle.std.proofs.Common.{None}
use Rattle.sqlite.specs.Held.{state}
use Rattle.sqlite_wrapper.proofs.Maps.{sets}
use Rattle.sqlite_wrapper.proofs.LiveScans.{keeps_allowed, sqlite_ends}
use Rattle.sqlite_wrapper.proofs.Looking.{keeps_looks, removed_fresh}
use Rattle.sqlite_wrapper.proofs.wrapper.SqliteWrapperWrapper.end.Goals as goal

pub returns : goal.returns
returns g c =
    let s = c.args.self.now in
    sqlite_ends g.S.SourceStore.honest s.bound.items s.staged (state g.S.Store s.conn).now s.scans c.remove.new.self s.next s.pulled
    s.faults c.args.ticket.number (sets s.scans c.remove.new.self c.args.ticket.number None c.remove.ensures.updates)

pub invariant_of-self : goal.invariant_of-self
invariant_of-self g c =
    let s = c.args.self.now in
    let number = c.args.ticket.number in
    let u = sets s.scans c.remove.new.self number None c.remove.ensures.updates in
    record {
      shaped = s.shaped;
      counted = s.counted;
      idle = s.idle;
      writable = s.writable;
      apart = s.apart;
      named = s.named;
      there = s.there;
      typed_write = s.typed_write;
      counts = s.counts;
      few = s.few;
      allowed = keeps_allowed s.scans c.remove.new.self number None s.allowed (λ z e. absurd cc) u;
      fresh = removed_fresh s.scans c.remove.new.self number s.next s.fresh u;
      looked = λ h. keeps_looks (state g.S.Store s.conn).now s.scans c.remove.new.self number None (s.looked h) (λ z e. absurd cc) u;
    }
