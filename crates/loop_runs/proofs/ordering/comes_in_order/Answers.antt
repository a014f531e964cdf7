use Rattle.std.proofs.Common.{◌≡◌, List, [], ◌∷◌, length, sym, ap, ◌∙◌, subst, arith}
use Rattle.med_query.specs.declared.select.SelectCore.{SelectCore}
use Rattle.scan_loops.specs.declared.levels.LoopLevel.{LoopLevel}
use Rattle.scan_loops.specs.Ordered.{ComesInOrder}
use Rattle.loop_runs.specs.Gathering.{levels_in}
use Rattle.loop_runs.proofs.Orders.{alone, alone_same}
use Rattle.loop_runs.proofs.ordering.comes_in_order.Goals as goal

pub returns : goal.returns
returns c =
    let plan = c.args.plan.now in
    let core = c.index-2.result.now in
    let level = c.index-levels-0.result in
    let one : length plan.select.cores.items ≡ 1 = omega arith in
    let two : length plan.loops.items ≡ 1 = omega arith in
    let cores : plan.select.cores.items ≡ core ∷ [] = alone plan.select.cores.items core one c.index-2.ensures in
    let many : length c.as_slice-levels.result.now ≡ 1 = omega arith in
    let inner : c.index.result.now.items ≡ level ∷ [] = sym c.as_slice-levels.ensures.value ∙ alone c.as_slice-levels.result.now level many c.index-levels-0.is in
    let outer : levels_in plan.loops.items ≡ c.index.result.now.items ∷ [] = ap levels_in (alone plan.loops.items c.index.result.now two c.index.ensures) in
    let levels : levels_in plan.loops.items ≡ (level ∷ []) ∷ [] = outer ∙ ap (λ (ls : List LoopLevel). ls ∷ []) inner in (
      λ e. record { core = core; level = level; levels = levels; comes = c.stand_in_order.ensures.0 e },
      λ h.
          let same_level : h.level ≡ level = alone_same h.level level (alone_same (h.level ∷ []) (level ∷ []) (sym h.levels ∙ levels)) in
          let same_core : h.core ≡ core = alone_same h.core core (sym h.comes.core ∙ cores) in
          c.stand_in_order.ensures.1 (subst (λ (k : SelectCore). ComesInOrder plan.select k level) same_core (subst (λ (l : LoopLevel). ComesInOrder plan.select h.core l) same_level h.comes)),
    )
