use Rattle.std.proofs.Common.{◌∙◌, map, sym}
use Rattle.fdw_api.specs.Wishes.{key_form}
use Rattle.med_planner.proofs.Orders.{too_many}
use Rattle.med_planner.proofs.wishing.order_of.Goals as goal

pub returns-else-is_empty : goal.returns-else-is_empty
returns-else-is_empty c =
    too_many (map key_form c.loop-key.order.items) c.loop-key.left.now c.args.keys.now c.loop-key.key-index c.loop-key-test.false (sym c.is_empty.ensures ∙ c.if-is_empty.false) ∙ c.loop-key.invariant
