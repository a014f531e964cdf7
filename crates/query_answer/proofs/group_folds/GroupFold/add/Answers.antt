use Rattle.std.proofs.Common.{map, sym, subst}
use Rattle.med_value.specs.Datum.{tuple}
use Rattle.query_answer.specs.Classes.{KeepsFew}
use Rattle.query_answer.specs.Keys.{key_in}
use Rattle.query_answer.specs.Running.{runnings_in}
use Rattle.query_answer.proofs.KeptGroups.{few_kept, some_more}
use Rattle.query_answer.proofs.group_folds.GroupFold.add.Goals as goal

pub put_row-requires : goal.put_row-requires
put_row-requires c =
    let f = c.args.self.now in
    let keys = map key_in f.seen.keys in
    let gs = runnings_in f.groups.items in
    record { kept = subst (λ ls. KeepsFew f.columns.now ls keys gs) (sym c.as_slice.ensures.value) (few_kept f.columns.now f.leaves.items keys gs f.count c.requires.few (f.kept c.if-not-self.false)) }

pub invariant_of-self-2 : goal.invariant_of-self-2
invariant_of-self-2 c =
    let f = c.args.self.now in
    let keys = map key_in f.seen.keys in
    let gs = runnings_in f.groups.items in
    record { kept = λ e. some_more f.columns.now f.leaves.items keys gs f.count (tuple c.args.row.now) (map key_in c.put_row.new.seen.keys) (runnings_in c.put_row.new.groups.items) c.requires.few (rw c.as_slice.ensures.value at c.in_ok-put_row.ensures) (f.kept c.if-not-self.false) }
