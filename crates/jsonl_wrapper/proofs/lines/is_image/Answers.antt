use Rattle.std.proofs.Common.{rules, get_or, refl}
use Rattle.jsonl_wrapper.specs.declared.lines.Span.{Span}
use Rattle.jsonl_wrapper.proofs.LineLaws.{image_on}
use Rattle.jsonl_wrapper.proofs.lines.is_image.Goals as goal

pub loop-span-preserved : goal.loop-span-preserved
loop-span-preserved c =
    let i = c.loop-span.invariant in
    let none : Span = record { start = 0; end = 0 } in
    let span = get_or c.args.lines.now c.loop-span.span-index none in
    let on = image_on c.args.content.now c.args.lines.now c.loop-span.span-index c.loop-span.place none span
    (search rules) refl i.text i.size i.places (search rules) (search rules) i.within (search rules) in
    record {
      within = search rules;
      text = on.0;
      size = on.1;
      places = on.2;
    }
