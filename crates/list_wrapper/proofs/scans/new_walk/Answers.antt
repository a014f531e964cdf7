use Rattle.std.proofs.Common.{List, sym, ◌∙◌, subst}
use Rattle.med_value.specs.declared.value.Row.{Row}
use Rattle.wrapper_parts.specs.Rising.{AreRising}
use Rattle.list_wrapper.specs.Scans.{keys_of}
use Rattle.list_wrapper.proofs.RisingLists.{rises_at}
use Rattle.list_wrapper.proofs.scans.new_walk.Goals as goal

pub first_walk-requires : goal.first_walk-requires
first_walk-requires c = λ e.
    subst (λ (l : List Row). AreRising (keys_of l)) (sym c.in-Some.ensures.some)
    (rises_at c.args.tables.now.items c.args.rising.now c.live_scan-scan.result.now.table c.requires.rises (sym c.is_rising-rises.ensures ∙ e))

pub turn_walk-requires : goal.turn_walk-requires
turn_walk-requires c = λ e.
    subst (λ (l : List Row). AreRising (keys_of l)) (sym c.in-Some.ensures.some)
    (rises_at c.args.tables.now.items c.args.rising.now c.live_scan-scan.result.now.table c.requires.rises (sym c.is_rising-rises.ensures ∙ e))
