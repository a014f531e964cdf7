use Rattle.std.proofs.Common.{List, map, is_lt, subst}
use Rattle.std.specs.Cmp.{IsStrictWeakOrder}
use Rattle.std.proofs.lemmas.List.Sorted.{ranks_by}
use Rattle.itertools.specs.Extremes.{IsKLeast}
use Rattle.med_query.specs.Prelude.{direction_of, Output}
use Rattle.med_query.specs.declared.select.SortDirection.{SortDirection}
use Rattle.med_query.proofs.Telling.{if_ok_then}
use Rattle.query_answer.specs.Ordering.{output_cmp, staged_cmp}
use Rattle.query_answer.specs.Staging.{output_of}
use Rattle.query_answer.proofs.KeyOrder.{keys_total}
use Rattle.query_answer.proofs.Standing.{least_map, stands_least}
use Rattle.query_answer.proofs.waiting.trimmed.Goals as goal

pub returns-clause-stands : goal.returns-clause-stands
returns-clause-stands c =
    let select = c.args.select.now in
    let held = c.args.held.items in
    let directions = select.directions.items in
    let wanted = c.args.wanted in
    let cmp = output_cmp directions in
    let order : IsStrictWeakOrder (λ a b. is_lt (cmp a b)) = ranks_by (keys_total c.key_order_is_total.ensures (map direction_of directions)) (λ (o : Output). o.0) in
    if_ok_then c.front_in_order.result _ _ (λ out h.
    let least : IsKLeast (λ a b. is_lt (staged_cmp directions a b)) wanted held out.items =
    subst (λ (l : List SortDirection). IsKLeast (λ a b. is_lt (staged_cmp l a b)) wanted held out.items) c.as_slice.ensures.value h in
    stands_least cmp order select.offset select.limit wanted (map output_of held) (map output_of out.items) c.requires.wanted
    (least_map output_of cmp wanted held out.items least)) c.front_in_order.ensures

pub returns-clause-sorted : goal.returns-clause-sorted
returns-clause-sorted c =
    let held = c.args.held.items in
    let directions = c.args.select.now.directions.items in
    let wanted = c.args.wanted in
    if_ok_then c.front_in_order.result _ _ (λ out h.
    let least : IsKLeast (λ a b. is_lt (staged_cmp directions a b)) wanted held out.items =
    subst (λ (l : List SortDirection). IsKLeast (λ a b. is_lt (staged_cmp l a b)) wanted held out.items) c.as_slice.ensures.value h in
    (least_map output_of (output_cmp directions) wanted held out.items least).0) c.front_in_order.ensures
