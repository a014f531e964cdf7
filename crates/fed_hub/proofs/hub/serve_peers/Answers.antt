use Rattle.std.proofs.Common.{[]}
use Rattle.fed_hub.proofs.Standing.{then_more}
use Rattle.fed_hub.proofs.Turning.{each_gone}
use Rattle.fed_hub.proofs.hub.serve_peers.Goals as goal

pub returns-clause-served : goal.returns-clause-served
returns-clause-served g c =
    let served = then_more g.H.Handler.step _ _ _ _ _ _ _ _ c.serve_places-came.ensures.said c.leave_each.ensures.said in
    let all = served.stand [] c.in-Ok.ensures.free in
    record { said = served.more; leads = served.leads; each = each_gone _ _ _ served.more all c.leave_each.ensures.free }
