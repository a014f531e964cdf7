use Rattle.std.proofs.Common.{map, ap}
use Rattle.fdw_api.specs.Wishes.{wish_form}
use Rattle.scan_loops.specs.Slots.{states}
use Rattle.med_planner.specs.Offered.{offer_form}
use Rattle.med_exec.specs.Offers.{IsOffered}
use Rattle.med_exec.proofs.Agreements.{each_at, none_left, goes_end}
use Rattle.med_exec.proofs.agreeing.agree_core.Goals as goal

pub agree-requires : goal.agree-requires
agree-requires g c =
    each_at (IsOffered (states g.W.Wrapper.meaning c.args.slots.now.items)) offer_form c.args.offers.now c.loop-offer.offer-index c.offer-item.result c.loop-offer-test.true c.offer-item.is c.requires

pub returns-clause-ok : goal.returns-clause-ok
returns-clause-ok g c =
    goes_end (states g.W.Wrapper.meaning c.args.slots.now.items) (wish_form c.args.wish.now) (map offer_form c.args.offers.now) _ c.loop-offer.all.items
    (ap (map offer_form) (none_left c.args.offers.now c.loop-offer.offer-index c.loop-offer-test.false)) c.loop-offer.invariant
