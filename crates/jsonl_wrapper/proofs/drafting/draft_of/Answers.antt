use Rattle.std.proofs.Common.{◌≡◌, ◌∙◌, length, refl, ap, rules}
use Rattle.std.specs.List.{list_all}
use Rattle.jsonl_wrapper.specs.Lines.{is_movable}
use Rattle.jsonl_wrapper.specs.Wholes.{whole_readers}
use Rattle.jsonl_wrapper.specs.Tables.{readers_in}
use Rattle.jsonl_wrapper.proofs.WholeLaws.{places_within}
use Rattle.jsonl_wrapper.proofs.StandLaws.{spliced_before, spliced_after}
use Rattle.jsonl_wrapper.proofs.drafting.draft_of.Goals as goal

pub splices_of-requires-clause-cells : goal.splices_of-requires-clause-cells
splices_of-requires-clause-cells c =
    let t = c.args.table in
    let width : c.count_wholes-width.result ≡ length (whole_readers (readers_in t)) = search rules in
    rw width (places_within t c.args.exchange.to c.requires.1.within)

pub invariant_of-result-clause-image : goal.invariant_of-result-clause-image
invariant_of-result-clause-image c = (spliced_before c.args.table c.args.exchange _ c.in-Ok.splices c.in-Ok.ensures.ok).image

pub invariant_of-result-clause-kept : goal.invariant_of-result-clause-kept
invariant_of-result-clause-kept c = (spliced_before c.args.table c.args.exchange _ c.in-Ok.splices c.in-Ok.ensures.ok).kept

pub invariant_of-result-clause-risen : goal.invariant_of-result-clause-risen
invariant_of-result-clause-risen c = (spliced_before c.args.table c.args.exchange _ c.in-Ok.splices c.in-Ok.ensures.ok).risen

pub invariant_of-result-clause-movable : goal.invariant_of-result-clause-movable
invariant_of-result-clause-movable c =
    let x = c.args.exchange in
    ap (list_all (is_movable x.end x.base)) c.in-Ok.ensures.ok.back ∙ c.requires.1.movable

pub invariant_of-result-clause-image_after : goal.invariant_of-result-clause-image_after
invariant_of-result-clause-image_after c =
    let t = c.args.table in
    let width : c.count_wholes-width.result ≡ length (whole_readers (readers_in t)) = search rules in
    (spliced_after t c.args.exchange _ c.in-Ok.splices c.requires.0 c.args.stays width c.in-Ok.ensures.ok c.requires.1 c.requires.2).image refl

pub invariant_of-result-clause-kept_after : goal.invariant_of-result-clause-kept_after
invariant_of-result-clause-kept_after c =
    let t = c.args.table in
    let width : c.count_wholes-width.result ≡ length (whole_readers (readers_in t)) = search rules in
    (spliced_after t c.args.exchange _ c.in-Ok.splices c.requires.0 c.args.stays width c.in-Ok.ensures.ok c.requires.1 c.requires.2).kept

pub invariant_of-result-clause-risen_after : goal.invariant_of-result-clause-risen_after
invariant_of-result-clause-risen_after c =
    let t = c.args.table in
    let width : c.count_wholes-width.result ≡ length (whole_readers (readers_in t)) = search rules in
    (spliced_after t c.args.exchange _ c.in-Ok.splices c.requires.0 c.args.stays width c.in-Ok.ensures.ok c.requires.1 c.requires.2).risen
