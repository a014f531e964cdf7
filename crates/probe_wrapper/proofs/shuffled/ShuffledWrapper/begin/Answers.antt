use Rattle.std.proofs.Common.{refl}
use Rattle.std.proofs.lemmas.Result.{err_from_is_err_and}
use Rattle.probe_wrapper.specs.Shuffled.{turns_of}
use Rattle.probe_wrapper.proofs.CallLemmas.{begun_is_open, open_is_live}
use Rattle.probe_wrapper.proofs.ShuffledCalls.{begins, refuses_begin, begun_in_vain}
use Rattle.probe_wrapper.proofs.ShuffledScans.{becomes_of, stays_of}
use Rattle.probe_wrapper.proofs.shuffled.ShuffledWrapper.begin.Goals as goal

pub returns-in_err-ticket-clause-err : goal.returns-in_err-ticket-clause-err
returns-in_err-ticket-clause-err g c =
    let p = err_from_is_err_and c.from_residual.result c.from_residual.ensures.1 in
    rw (p.1, p.2) (refuses_begin (turns_of c.args.self.now.scans) c.args.self.now.pulled (g.W.Wrapper.meaning c.args.self.now.inner) (g.W.Wrapper.meaning c.begin.new.self) _ c.in_err-ticket.ensures.err)

pub returns-in-Ok-clause-ok : goal.returns-in-Ok-clause-ok
returns-in-Ok-clause-ok g c =
    begins (turns_of c.args.self.now.scans) (turns_of c.insert.new.self) c.args.self.now.pulled (g.W.Wrapper.meaning c.args.self.now.inner) (g.W.Wrapper.meaning c.begin.new.self) _ _ _ _ c.saturating_add-places.result refl c.in_ok-ticket.ensures.ok
    (becomes_of c.args.self.now.scans c.insert.new.self _ _ c.in-Ok.ensures.updates)

pub end-requires : goal.end-requires
end-requires g c = open_is_live (g.W.Wrapper.meaning c.begin.new.self) c.in_ok-ticket.ticket.number (begun_is_open (g.W.Wrapper.meaning c.args.self.now.inner) (g.W.Wrapper.meaning c.begin.new.self) _ _ _ _ c.in_ok-ticket.ensures.ok)

pub returns-clause-err : goal.returns-clause-err
returns-clause-err g c =
    begun_in_vain (turns_of c.args.self.now.scans) (turns_of c.insert.new.self) c.args.self.now.pulled (g.W.Wrapper.meaning c.args.self.now.inner) (g.W.Wrapper.meaning c.begin.new.self) (g.W.Wrapper.meaning c.end.new.self) _ _ _ _ c.in_ok-ticket.ensures.ok c.end.ensures
    (stays_of c.args.self.now.scans c.insert.new.self c.in-Err.ensures.err)

pub returns-clause-kept : goal.returns-clause-kept
returns-clause-kept g c = stays_of c.args.self.now.scans c.insert.new.self c.in-Err.ensures.err
