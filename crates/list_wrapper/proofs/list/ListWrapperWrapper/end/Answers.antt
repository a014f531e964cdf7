use Rattle.list_wrapper.proofs.Calls.{list_ends, ends_fitting, drops_fresh}
use Rattle.list_wrapper.proofs.list.ListWrapperWrapper.end.Goals as goal

pub returns : goal.returns
returns c =
    let s = c.args.self.now in
    list_ends s.tables.items s.bound.items s.scans c.remove.new.self s.staged s.next s.pulled c.args.ticket.number c.remove.ensures.updates

pub invariant_of-self : goal.invariant_of-self
invariant_of-self c =
    let s = c.args.self.now in
    record {
      marked = s.marked;
      noted = s.noted;
      rises = s.rises;
      distinct = s.distinct;
      typed = s.typed;
      fitting = ends_fitting s.tables.items s.scans c.remove.new.self c.args.ticket.number s.fitting c.remove.ensures.updates;
      typed_write = s.typed_write;
      fresh = drops_fresh s.scans c.remove.new.self c.args.ticket.number s.next s.fresh c.remove.ensures.updates;
    }
