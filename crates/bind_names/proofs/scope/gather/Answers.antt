use Rattle.std.proofs.Common.{◌<◌, length, option_map, string_bytes, arith}
use Rattle.bind_names.proofs.Places.{found_past_entry, columns_past_entry}
use Rattle.bind_names.proofs.scope.gather.Goals as goal

pub loop-entry-preserved : goal.loop-entry-preserved
loop-entry-preserved c =
    let lt : c.loop-entry.entry-index < length c.args.scope.now = omega arith in
    let sum = c.in-Some.ensures {u = tt} in
    let counted = columns_past_entry _ c.loop-entry.at c.args.scope.now c.loop-entry.entry-index c.entry-item.result c.loop-entry.invariant.counted lt c.entry-item.is in
    record {
      found = found_past_entry _ c.loop-entry.found c.find_under-found.result c.args.scope.now c.loop-entry.entry-index c.loop-entry.at c.in-Some.end c.entry-item.result (option_map string_bytes c.args.qualifier.now) c.args.name.now
          c.loop-entry.invariant.found lt c.entry-item.is c.find_under-found.ensures sum.1;
      counted = omega (arith, counted, sum.1);
    }
