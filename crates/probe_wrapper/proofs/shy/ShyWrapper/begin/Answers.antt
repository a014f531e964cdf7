use Rattle.std.proofs.Common.{false}
use Rattle.std.proofs.lemmas.Result.{err_from_is_err_and}
use Rattle.fdw_api.specs.Scan.{spec_of}
use Rattle.probe_wrapper.specs.Shy.{hidden, asked_of}
use Rattle.probe_wrapper.proofs.CallLemmas.{begun_is_open, open_is_live}
use Rattle.probe_wrapper.proofs.ShyCalls.{is_plainly, can_begin, begins, begun_bare, refuses_begin, not_begun, begun_in_vain}
use Rattle.probe_wrapper.proofs.ShyScans.{asks_of, stays_of}
use Rattle.probe_wrapper.proofs.ShyColumns.{begun_wanting}
use Rattle.probe_wrapper.proofs.shy.ShyWrapper.begin.Goals as goal

pub begin-requires : goal.begin-requires
begin-requires g c = can_begin false (g.W.Wrapper.meaning c.args.self.now.inner) (asked_of c.args.self.now.scans) _ _ _ _ _ c.in_ok-bare.ensures c.requires

pub returns-in_err-scan-clause-err : goal.returns-in_err-scan-clause-err
returns-in_err-scan-clause-err g c =
    let p = err_from_is_err_and c.from_residual.result c.from_residual.ensures.1 in
    rw (p.1, p.2) (not_begun (hidden false (g.W.Wrapper.meaning c.args.self.now.inner) (asked_of c.args.self.now.scans)))

pub returns-in_err-bare-clause-err : goal.returns-in_err-bare-clause-err
returns-in_err-bare-clause-err g c =
    let p = err_from_is_err_and c.from_residual-in_err-bare.result c.from_residual-in_err-bare.ensures.1 in
    rw (p.1, p.2) (not_begun (hidden false (g.W.Wrapper.meaning c.args.self.now.inner) (asked_of c.args.self.now.scans)))

pub returns-in_err-ticket-clause-err : goal.returns-in_err-ticket-clause-err
returns-in_err-ticket-clause-err g c =
    let p = err_from_is_err_and c.from_residual-in_err-ticket.result c.from_residual-in_err-ticket.ensures.1 in
    rw (p.1, p.2) (refuses_begin false (asked_of c.args.self.now.scans) (g.W.Wrapper.meaning c.args.self.now.inner) (g.W.Wrapper.meaning c.begin.new.self) _ c.in_err-ticket.ensures.err)

pub returns-in-Ok-clause-ok : goal.returns-in-Ok-clause-ok
returns-in-Ok-clause-ok g c =
    begins false (asked_of c.args.self.now.scans) (asked_of c.insert.new.self) (g.W.Wrapper.meaning c.args.self.now.inner) (g.W.Wrapper.meaning c.begin.new.self) _ (spec_of c.args.spec.now) (spec_of c.in_ok-bare.bare) _ _ _ c.in_ok-bare.ensures (is_plainly false (g.W.Wrapper.meaning c.args.self.now.inner) (asked_of c.args.self.now.scans) _ _ _ c.requires) c.in_ok-ticket.ensures.ok
    (asks_of c.args.self.now.scans c.insert.new.self _ _ _ c.in_ok-scan.ensures c.in-Ok.ensures.updates)

pub returns-in-Ok-clause-bare : goal.returns-in-Ok-clause-bare
returns-in-Ok-clause-bare g c = begun_bare (g.W.Wrapper.meaning c.args.self.now.inner) (g.W.Wrapper.meaning c.begin.new.self) _ (spec_of c.in_ok-bare.bare) _ _ c.in_ok-bare.ensures c.in_ok-ticket.ensures.ok

pub end-requires : goal.end-requires
end-requires g c = open_is_live (g.W.Wrapper.meaning c.begin.new.self) c.in_ok-ticket.ticket.number (begun_is_open (g.W.Wrapper.meaning c.args.self.now.inner) (g.W.Wrapper.meaning c.begin.new.self) _ _ _ _ c.in_ok-ticket.ensures.ok)

pub returns-clause-err : goal.returns-clause-err
returns-clause-err g c =
    begun_in_vain false (asked_of c.args.self.now.scans) (asked_of c.insert.new.self) (g.W.Wrapper.meaning c.args.self.now.inner) (g.W.Wrapper.meaning c.begin.new.self) (g.W.Wrapper.meaning c.end.new.self) _ _ _ _ c.in_ok-ticket.ensures.ok c.end.ensures
    (stays_of c.args.self.now.scans c.insert.new.self c.in-Err.ensures.err)

pub returns-clause-kept : goal.returns-clause-kept
returns-clause-kept g c = stays_of c.args.self.now.scans c.insert.new.self c.in-Err.ensures.err

pub returns-in-Ok-clause-columns : goal.returns-in-Ok-clause-columns
returns-in-Ok-clause-columns g c = begun_wanting (g.W.Wrapper.meaning c.args.self.now.inner) (g.W.Wrapper.meaning c.begin.new.self) _ (spec_of c.in_ok-bare.bare) _ _ _ c.in_ok-bare.ensures c.in_ok-ticket.ensures.ok
