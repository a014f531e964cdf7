use Rattle.std.proofs.Common.{ap, option_map, false}
use Rattle.probe_wrapper.specs.Shy.{asked_of, asked_form}
use Rattle.probe_wrapper.proofs.SeenScans.{apart}
use Rattle.probe_wrapper.proofs.ShyLemmas.{live_in}
use Rattle.probe_wrapper.proofs.ShyCalls.{ends}
use Rattle.probe_wrapper.proofs.shy.ShyWrapper.end.Goals as goal

pub end-requires : goal.end-requires
end-requires g c = live_in false (g.W.Wrapper.meaning c.args.self.now.inner) (asked_of c.args.self.now.scans) _ c.requires

pub returns-clause-ended : goal.returns-clause-ended
returns-clause-ended g c =
    ends false (asked_of c.args.self.now.scans) (asked_of c.remove.new.self) (g.W.Wrapper.meaning c.args.self.now.inner) (g.W.Wrapper.meaning c.end.new.self) c.args.ticket.number
    (λ q ne. ap (option_map asked_form) (c.remove.ensures.updates.2 q (apart c.args.ticket.number q ne))) c.end.ensures

pub returns-clause-forgotten : goal.returns-clause-forgotten
returns-clause-forgotten g c = record {
  gone = ap (option_map asked_form) c.remove.ensures.updates.1;
  others = λ q ne. ap (option_map asked_form) (c.remove.ensures.updates.2 q (apart c.args.ticket.number q ne));
}
