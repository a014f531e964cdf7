use Rattle.std.proofs.Common.{sym}
use Rattle.probe_wrapper.proofs.CallLemmas.{begun_is_open, open_is_live}
use Rattle.wrapper_tests.proofs.CallLemmas.{begun_has_table, begun_differs, begun_keeps, open_stays, live_stays, refused_keeps, ended_keeps}
use Rattle.wrapper_tests.proofs.reads.read_in_turn.Goals as goal

pub begin-requires : goal.begin-requires
begin-requires g c = c.plain-spec.ensures.allowed _ _ c.requires

pub begin-requires-2 : goal.begin-requires-2
begin-requires-2 g c = c.plain-spec.ensures.allowed _ _ (begun_has_table _ _ _ _ _ _ _ c.in_ok-first.ensures.ok c.requires)

pub end-requires : goal.end-requires
end-requires g c =
    let begun = g.W.Wrapper.meaning c.begin.new.self in
    let refused = g.W.Wrapper.meaning c.begin-2.new.self in
    let n = c.in_ok-first.first.number in
    let first = begun_is_open _ begun _ _ _ n c.in_ok-first.ensures.ok in
    live_stays begun refused n (refused_keeps _ begun refused n c.in-Err.ensures.err.refuses) (open_is_live begun n first)

pub take_in_turn-taken-requires-clause-first : goal.take_in_turn-taken-requires-clause-first
take_in_turn-taken-requires-clause-first g c =
    let one = g.W.Wrapper.meaning c.begin.new.self in
    let two = g.W.Wrapper.meaning c.begin-2.new.self in
    let n = c.in_ok-first.first.number in
    let first = begun_is_open _ one _ _ _ n c.in_ok-first.ensures.ok in
    let begun = c.in-Ok.ensures.ok in
    open_stays one two n (begun_keeps one two _ _ _ _ n begun (begun_differs one two _ _ _ _ n begun first)) first

pub take_in_turn-taken-requires-clause-second : goal.take_in_turn-taken-requires-clause-second
take_in_turn-taken-requires-clause-second g c = begun_is_open _ _ _ _ _ _ c.in-Ok.ensures.ok

pub end-requires-3 : goal.end-requires-3
end-requires-3 g c =
    let one = g.W.Wrapper.meaning c.begin.new.self in
    let two = g.W.Wrapper.meaning c.begin-2.new.self in
    let read = g.W.Wrapper.meaning c.take_in_turn-taken.new.source in
    let ended = g.W.Wrapper.meaning c.end-2.new.self in
    let n = c.in_ok-first.first.number in
    let m = c.in-Ok.second.number in
    let first = begun_is_open _ one _ _ _ n c.in_ok-first.ensures.ok in
    let differ = begun_differs one two _ _ _ m n c.in-Ok.ensures.ok first in
    live_stays read ended m (ended_keeps read ended n m c.end-2.ensures (λ e. differ (sym e))) c.take_in_turn-taken.ensures.second
