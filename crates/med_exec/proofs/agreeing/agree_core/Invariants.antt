use Rattle.std.proofs.Common.{map, drop}
use Rattle.fdw_api.specs.Wishes.{wish_form}
use Rattle.scan_loops.specs.Slots.{states}
use Rattle.med_planner.specs.Offered.{offer_form}
use Rattle.med_exec.proofs.Agreements.{Goes}
use Rattle.med_exec.proofs.agreeing.agree_core.Given as goal

abbrev pub invariant-loop-offer : goal.invariant-loop-offer
invariant-loop-offer g l = Goes (states g.W.Wrapper.meaning l.slots.items) (wish_form l.wish) (map offer_form l.offers) (map offer_form (drop l.offer-index l.offers)) l.all.items
