use Rattle.std.proofs.Common.{[], ◌∷◌, ◌++◌, map, sym, ap, ◌∙◌, subst, arith}
use Rattle.std.proofs.lemmas.List.{map-append}
use Rattle.med_value.specs.Datum.{tuple}
use Rattle.query_answer.specs.Running.{ClassesRun, runnings_in}
use Rattle.query_answer.proofs.KeptGroups.{all_long, all_short, runs_end}
use Rattle.query_answer.proofs.group_folds.add_group.Goals as goal

pub add_row-requires : goal.add_row-requires
add_row-requires c =
    let ls = c.args.leaves.now in
    let rs = c.in_ok-group.group.items in
    record {
      many = all_long ls [] rs c.in_ok-group.ensures;
      room = λ k d lt. let n = (all_short ls [] rs c.in_ok-group.ensures k d lt).0 in omega arith;
      small = λ k d lt. (all_short ls [] rs c.in_ok-group.ensures k d lt).1;
    }

pub returns : goal.returns
returns c classes h =
    let gs = c.args.groups.now.items in
    subst (ClassesRun c.args.leaves.now (classes ++ (tuple c.args.row.now ∷ []) ∷ [])) (sym (ap (map (λ g. g.items)) c.in_ok-push.ensures.items ∙ map-append (λ g. g.items) gs (c.add_row.new.all ∷ [])))
    (runs_end c.args.leaves.now classes (runnings_in gs) (tuple c.args.row.now) c.add_row.new.all.items (c.in_ok-add_row.ensures [] c.in_ok-group.ensures) h)
