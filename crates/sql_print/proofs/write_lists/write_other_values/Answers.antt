use Rattle.std.proofs.Common.{map, rules}
use Rattle.std.specs.String.{string_bytes}
use Rattle.med_syntax.specs.Prelude.{expr_tree, spelling}
use Rattle.sql_print.proofs.WritingParts.{others_next}
use Rattle.sql_print.proofs.write_lists.write_other_values.Goals as goal

pub loop-value-preserved : goal.loop-value-preserved
loop-value-preserved c =
    others_next spelling (string_bytes c.args.out.now) (string_bytes c.loop-value.out) (string_bytes c.write_fixed.new.out) (string_bytes c.write.new.out) (expr_tree c.in-Some.value.now) (map expr_tree c.in-Some.rest.now) (map expr_tree c.args.values.now)
    (search rules) c.in_ok-write_fixed.ensures c.in_ok-write.ensures
