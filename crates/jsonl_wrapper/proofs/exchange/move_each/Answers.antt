use Rattle.std.proofs.Common.{◌<◌, length, refl, arith}
use Rattle.jsonl_wrapper.specs.Lines.{moved, is_movable}
use Rattle.jsonl_wrapper.proofs.ExchangeLaws.{set_next, rest_all}
use Rattle.jsonl_wrapper.proofs.exchange.move_each.Goals as goal

pub loop-span-preserved : goal.loop-span-preserved
loop-span-preserved c =
    let i = c.loop-span.span-index in
    let from = c.args.from in
    let to = c.args.to in
    let spans = c.args.spans.now in
    let old = c.loop-span.invariant in
    let there : i < length spans = omega arith in
    record {
      movable = rest_all (is_movable from to) spans i old.movable;
      spans = set_next (moved from to) spans c.loop-span.spans i _ _ there old.spans refl;
    }
