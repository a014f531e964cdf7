use Rattle.query_answer.proofs.StagedGroups.{lift_more, more_still}
use Rattle.query_answer.proofs.new_folds.new_fold.Goals as goal

pub returns-clause-lifted : goal.returns-clause-lifted
returns-clause-lifted c =
    let last = c.in_ok-items.ensures.more in
    record {
      of_having = lift_more c.all_lifted.new.leaves.items _ _ _ c.in_ok-having.ensures.lift (more_still c.all_lifted.new.leaves.items c.all_lifted-2.new.leaves.items _ c.in_ok-keys.ensures.more last);
      of_keys = lift_more c.all_lifted-2.new.leaves.items _ _ _ c.in_ok-keys.ensures.lift last;
      of_items = c.in_ok-items.ensures.lift;
    }
