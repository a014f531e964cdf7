use Rattle.std.proofs.Common.{◌≡◌, map, drop}
use Rattle.tri_expr.specs.Tree.{tree}
use Rattle.med_query.specs.Form.{direction_of}
use Rattle.fdw_api.specs.Wishes.{key_form}
use Rattle.scan_loops.specs.Ordered.{order_of}
use Rattle.med_planner.proofs.Orders.{led}
use Rattle.med_planner.proofs.wishing.order_of.Given as goal

abbrev pub invariant-loop-key : goal.invariant-loop-key
invariant-loop-key l =
    led (map key_form l.order.items) (order_of (map direction_of l.left) (map tree (drop l.key-index l.keys))) ≡ order_of (map direction_of l.directions) (map tree l.keys)
