use Rattle.std.proofs.Common.{◌∙◌, sym, Some, refl}
use Rattle.probe_wrapper.specs.declared.shuffled.TurnedScan.{TurnedScan}
use Rattle.probe_wrapper.proofs.ShuffledLemmas.{none_long}
use Rattle.probe_wrapper.proofs.ShuffledScans.{turns_none, turns_some}
use Rattle.probe_wrapper.proofs.shuffled.turn_rows.Goals as goal

pub returns-in-None : goal.returns-in-None
returns-in-None c =
    let none = none_long c.from_vec-waiting.result.items (sym c.from_vec-waiting.result.ok.0 ∙ c.in-None.ensures.cases.0) in
    turns_none c.args.scans.now c.args.number _ _ _ c.requires c.places_of.ensures c.turn_left.ensures.small (c.from_vec-waiting.ensures.items ∙ c.turn_left.ensures.turned) none

pub returns-in-Some : goal.returns-in-Some
returns-in-Some c =
    turns_some c.args.scans.now c.keep_rows.new.scans c.args.number _ _ _ _ c.in-Some.row (λ (x : TurnedScan). record x { rows = Some c.pop_front.new.self }) (λ x. refl) c.requires c.places_of.ensures c.turn_left.ensures.small
    (c.from_vec-waiting.ensures.items ∙ c.turn_left.ensures.turned) c.in-Some.ensures.items c.keep_rows.ensures
