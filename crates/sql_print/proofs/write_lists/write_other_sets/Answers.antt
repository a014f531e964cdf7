use Rattle.std.proofs.Common.{map, rules}
use Rattle.std.specs.String.{string_bytes}
use Rattle.med_syntax.specs.WriteView.{set_tree}
use Rattle.sql_print.specs.WritePrinting.{set_written}
use Rattle.sql_print.proofs.WritingParts.{others_next}
use Rattle.sql_print.proofs.write_lists.write_other_sets.Goals as goal

pub loop-set-preserved : goal.loop-set-preserved
loop-set-preserved c =
    others_next set_written (string_bytes c.args.out.now) (string_bytes c.loop-set.out) (string_bytes c.write_fixed.new.out) (string_bytes c.write_set.new.out) (set_tree c.in-Some.set.now) (map set_tree c.in-Some.rest.now) (map set_tree c.args.sets.now)
    (search rules) c.in_ok-write_fixed.ensures c.in_ok-write_set.ensures
