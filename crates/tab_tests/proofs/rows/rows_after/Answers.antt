use Rattle.std.proofs.Common.{map, rules}
use Rattle.wrapper_parts.specs.Staged.{change_is}
use Rattle.tab_tests.proofs.KeptLaws.{after_changes}
use Rattle.tab_tests.proofs.rows.rows_after.Goals as goal

pub returns : goal.returns
returns c = after_changes c.args.rows.now c.in_ok-after.after.items c.in_ok-fates-2.field-0.fresh.items c.append.new.self.items c.in_ok-fates-2.field-0.fates.items c.in_ok-fates.fates.items (map change_is c.args.changes.items)
    (search rules) c.in_ok-fates-2.ensures.fates (search rules) (search rules) (search rules)
