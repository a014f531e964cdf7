use Rattle.std.proofs.Common.{◌∙◌, sym, Some}
use Rattle.probe_wrapper.specs.Shuffled.{turns_of}
use Rattle.probe_wrapper.proofs.ShuffledCalls.{gives_waiting}
use Rattle.probe_wrapper.proofs.ShuffledScans.{is_read, turn_is_there}
use Rattle.probe_wrapper.proofs.shuffled.ShuffledWrapper.iterate.Goals as goal

pub take_first-requires : goal.take_first-requires
take_first-requires g c = is_read _ (turn_is_there (g.W.Wrapper.meaning c.args.self.now.inner) c.args.self.now.scans c.args.self.now.pulled _ c.requires) (sym c.is_unread.ensures ∙ c.if-is_unread.false)

pub returns-in-Some-clause-ok : goal.returns-in-Some-clause-ok
returns-in-Some-clause-ok g c =
    rw c.saturating_add-self.ensures
    (gives_waiting (turns_of c.args.self.now.scans) (turns_of c.take_first.new.scans) c.args.self.now.pulled (g.W.Wrapper.meaning c.args.self.now.inner) c.args.ticket.now.number (Some c.in-Some.row) c.requires c.in-Some.ensures)
