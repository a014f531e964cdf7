use Rattle.std.proofs.Common.{◌≡◌, [], get_or, sym, ap, ◌∙◌, subst, arith}
use Rattle.std.proofs.lemmas.List.{length-map, get_or-map, map-set}
use Rattle.med_value.specs.Datum.{tuple}
use Rattle.med_query.proofs.Telling.{if_ok_then}
use Rattle.query_answer.specs.Classes.{IsReady}
use Rattle.query_answer.specs.Running.{AllRun, ClassesRun, runnings_in}
use Rattle.query_answer.specs.Keys.{put_at}
use Rattle.query_answer.proofs.KeptGroups.{runs_put}
use Rattle.query_answer.proofs.group_folds.add_to.Goals as goal

pub add_row-requires : goal.add_row-requires
add_row-requires c =
    let gs = c.args.groups.now.items in
    let n = length-map gs (λ g. g.items) in
    let lt = c.requires.there in
    let here : get_or (runnings_in gs) c.args.number [] ≡ c.index_mut.result.now.items = get_or-map (λ g. g.items) gs c.args.number c.index_mut.result.now [] c.requires.there ∙ ap (λ g. g.items) (sym c.index_mut.ensures.value) in
    let ready : IsReady c.args.leaves.now c.index_mut.result.now.items = subst (IsReady c.args.leaves.now) here (c.requires.ready c.args.number [] (omega arith)) in
    record { many = ready.0; room = ready.1; small = ready.2 }

pub returns : goal.returns
returns c =
    let gs = c.args.groups.now.items in
    let n = length-map gs (λ g. g.items) in
    let lt = c.requires.there in
    let here : get_or (runnings_in gs) c.args.number [] ≡ c.index_mut.result.now.items = get_or-map (λ g. g.items) gs c.args.number c.index_mut.result.now [] c.requires.there ∙ ap (λ g. g.items) (sym c.index_mut.ensures.value) in
    if_ok_then c.add_row.result _ _ (λ u f classes h.
    subst (ClassesRun c.args.leaves.now (put_at classes c.args.number (tuple c.args.row.now))) (sym (map-set (λ g. g.items) gs c.args.number c.add_row.new.all))
    (runs_put c.args.leaves.now classes (runnings_in gs) c.args.number [] (tuple c.args.row.now) c.add_row.new.all.items (omega arith) (λ class k. f class (subst (AllRun c.args.leaves.now class) here k)) h)) c.add_row.ensures
