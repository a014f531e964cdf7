use Rattle.std.proofs.Common.{ap, option_map}
use Rattle.probe_wrapper.specs.Shuffled.{turns_of, turn_of}
use Rattle.probe_wrapper.proofs.SeenScans.{apart}
use Rattle.probe_wrapper.proofs.ShuffledCalls.{live_in, ends}
use Rattle.probe_wrapper.proofs.shuffled.ShuffledWrapper.end.Goals as goal

pub end-requires : goal.end-requires
end-requires g c = live_in (g.W.Wrapper.meaning c.args.self.now.inner) (turns_of c.args.self.now.scans) c.args.self.now.pulled _ c.requires

pub returns-clause-ended : goal.returns-clause-ended
returns-clause-ended g c =
    ends (turns_of c.args.self.now.scans) (turns_of c.remove.new.self) c.args.self.now.pulled (g.W.Wrapper.meaning c.args.self.now.inner) (g.W.Wrapper.meaning c.end.new.self) c.args.ticket.number
    (λ q ne. ap (option_map turn_of) (c.remove.ensures.updates.2 q (apart c.args.ticket.number q ne))) c.end.ensures

pub returns-clause-forgotten : goal.returns-clause-forgotten
returns-clause-forgotten g c = record {
  gone = ap (option_map turn_of) c.remove.ensures.updates.1;
  others = λ q ne. ap (option_map turn_of) (c.remove.ensures.updates.2 q (apart c.args.ticket.number q ne));
}
