use Rattle.std.proofs.Common.{Some, None}
use Rattle.probe_wrapper.specs.Shuffled.{turns_of}
use Rattle.probe_wrapper.proofs.ShuffledCalls.{is_open_in, gives_first}
use Rattle.probe_wrapper.proofs.ShuffledScans.{breaks_read}
use Rattle.probe_wrapper.proofs.shuffled.Shuffled.read_first.Goals as goal

pub read_out-requires : goal.read_out-requires
read_out-requires g c = is_open_in (g.W.Wrapper.meaning c.args.self.now.inner) (turns_of c.args.self.now.scans) c.args.self.now.pulled _ c.requires.open

pub returns-in-Err-clause-err : goal.returns-in-Err-clause-err
returns-in-Err-clause-err g c = breaks_read (g.W.Wrapper.meaning c.args.self.now.inner) (g.W.Wrapper.meaning c.read_out.new.inner) c.args.self.now.scans c.spoil.new.scans c.args.self.now.pulled _ _ c.requires.open c.in-Err.ensures.err c.spoil.ensures

pub returns-in-None-clause-ok : goal.returns-in-None-clause-ok
returns-in-None-clause-ok g c =
    gives_first (turns_of c.args.self.now.scans) (turns_of c.turn_rows.new.scans) c.args.self.now.pulled (g.W.Wrapper.meaning c.args.self.now.inner) (g.W.Wrapper.meaning c.read_out.new.inner) c.args.ticket.now.number _ None
    c.requires.unread c.in-Ok.ensures.ok c.in-None.ensures

pub returns-in-Some-clause-ok : goal.returns-in-Some-clause-ok
returns-in-Some-clause-ok g c =
    rw c.saturating_add-self.ensures
    (gives_first (turns_of c.args.self.now.scans) (turns_of c.turn_rows.new.scans) c.args.self.now.pulled (g.W.Wrapper.meaning c.args.self.now.inner) (g.W.Wrapper.meaning c.read_out.new.inner) c.args.ticket.now.number _ (Some c.in-Some.row)
    c.requires.unread c.in-Ok.ensures.ok c.in-Some.ensures)
