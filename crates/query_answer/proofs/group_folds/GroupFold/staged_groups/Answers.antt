use Rattle.std.proofs.Common.{◌≡◌, ◌<◌, ◌≤◌, ◌^◌, ◌++◌, [], All, flat_map, map, take, get_or, length, sym, ap, ◌∙◌, subst, arith}
use Rattle.std.proofs.lemmas.List.{get_or-map, length-map, take_all}
use Rattle.med_query.specs.Query.{senses}
use Rattle.med_query.proofs.Telling.{tells_more}
use Rattle.query_answer.specs.Classes.{classes_so_far}
use Rattle.query_answer.specs.Keys.{key_in}
use Rattle.query_answer.specs.Running.{AllRun, counted, runnings_in}
use Rattle.query_answer.specs.Staging.{class_staged, class_told, output_of}
use Rattle.query_answer.proofs.KeptGroups.{few_in, long_in, runs_long}
use Rattle.query_answer.proofs.StagedGroups.{none_more, runs_at, shown_more, told_at}
use Rattle.query_answer.proofs.group_folds.GroupFold.staged_groups.Goals as goal

pub staged_group-requires : goal.staged_group-requires
staged_group-requires c =
    let f = c.args.self in
    let xs = f.groups.items in
    let k = c.loop-group.group-index in
    let keys = map key_in f.seen.keys in
    let gs = runnings_in xs in
    let n = length-map xs (λ g. g.items) in
    let m = ap length c.deref-group-items.ensures.value in
    let is = rw c.deref-group-items.ensures.value at c.group-item.is in
    let below : k < length xs = omega arith in
    let lt : k < length gs = omega arith in
    let here : get_or gs k [] ≡ c.group-item.result.items = get_or-map (λ g. g.items) xs k c.group-item.result [] below ∙ ap (λ g. g.items) (sym is) in
    let kept = f.kept c.if-not-self.false in
    record {
      many = long_in f.columns.now f.leaves.items keys gs f.count k [] lt kept ∙ ap length here;
      few = subst (All (λ r. counted r ≤ 2 ^ 62)) here (few_in f.columns.now f.leaves.items keys gs f.count k [] lt kept);
    }

pub loop-group-preserved : goal.loop-group-preserved
loop-group-preserved c =
    let f = c.args.self in
    let xs = f.groups.items in
    let k = c.loop-group.group-index in
    let gs = runnings_in xs in
    let n = length-map xs (λ g. g.items) in
    let m = ap length c.deref-group-items.ensures.value in
    let is = rw c.deref-group-items.ensures.value at c.group-item.is in
    let below : k < length xs = omega arith in
    let lt : k < length gs = omega arith in
    let here : get_or gs k [] ≡ c.group-item.result.items = get_or-map (λ g. g.items) xs k c.group-item.result [] below ∙ ap (λ g. g.items) (sym is) in
    record {
      outputs = λ rows folds having keys items lifted.
          let cs = classes_so_far f.columns.now rows in
          let long = runs_long f.leaves.items cs gs folds.runs in
          let run = subst (AllRun f.leaves.items (get_or cs k [])) here (runs_at f.leaves.items cs gs k [] lt folds.runs) in
          let show = class_staged (senses [] having) (senses [] keys) (senses [] items) in
          let old = map output_of c.loop-group.out.items in
          shown_more show cs k [] old _ (omega arith) (c.in_ok-push_staged-in-Ok-staged_group.ensures.ok ∙ ap (λ outs. old ++ outs) (c.in-Ok-staged_group.ensures.outputs (get_or cs k []) run having keys items lifted)) (c.loop-group.invariant.outputs rows folds having keys items lifted);
      no_fault = λ rows folds having keys items lifted.
          let cs = classes_so_far f.columns.now rows in
          let long = runs_long f.leaves.items cs gs folds.runs in
          let run = subst (AllRun f.leaves.items (get_or cs k [])) here (runs_at f.leaves.items cs gs k [] lt folds.runs) in
          let told = class_told (senses [] having) (senses [] keys) (senses [] items) in
          none_more told cs k [] (omega arith) (c.in-Ok-staged_group.ensures.no_fault (get_or cs k []) run having keys items lifted) (c.loop-group.invariant.no_fault rows folds having keys items lifted);
    }

pub returns-in-Err-clause-told : goal.returns-in-Err-clause-told
returns-in-Err-clause-told c rows folds having keys items lifted =
    let f = c.args.self in
    let xs = f.groups.items in
    let k = c.loop-group.group-index in
    let gs = runnings_in xs in
    let n = length-map xs (λ g. g.items) in
    let m = ap length c.deref-group-items.ensures.value in
    let is = rw c.deref-group-items.ensures.value at c.group-item.is in
    let below : k < length xs = omega arith in
    let lt : k < length gs = omega arith in
    let here : get_or gs k [] ≡ c.group-item.result.items = get_or-map (λ g. g.items) xs k c.group-item.result [] below ∙ ap (λ g. g.items) (sym is) in
    let cs = classes_so_far f.columns.now rows in
    let long = runs_long f.leaves.items cs gs folds.runs in
    let run = subst (AllRun f.leaves.items (get_or cs k [])) here (runs_at f.leaves.items cs gs k [] lt folds.runs) in
    let told = class_told (senses [] having) (senses [] keys) (senses [] items) in
    let before : k < length cs = omega arith in
    tells_more c.in-Err.fault (told (get_or cs k [])) (flat_map told cs) (λ d h. told_at told cs k [] d before h) (c.in-Err.ensures.told (get_or cs k []) run having keys items lifted)

pub returns-clause-outputs : goal.returns-clause-outputs
returns-clause-outputs c rows folds having keys items lifted =
    let f = c.args.self in
    let k = c.loop-group.group-index in
    let gs = runnings_in f.groups.items in
    let n = length-map f.groups.items (λ g. g.items) in
    let m = ap length c.deref-group-items.ensures.value in
    let cs = classes_so_far f.columns.now rows in
    let long = runs_long f.leaves.items cs gs folds.runs in
    let all : take k cs ≡ cs = take_all k cs (omega arith) in
    c.loop-group.invariant.outputs rows folds having keys items lifted ∙ ap (flat_map (class_staged (senses [] having) (senses [] keys) (senses [] items))) all

pub returns-clause-no_fault : goal.returns-clause-no_fault
returns-clause-no_fault c rows folds having keys items lifted =
    let f = c.args.self in
    let k = c.loop-group.group-index in
    let gs = runnings_in f.groups.items in
    let n = length-map f.groups.items (λ g. g.items) in
    let m = ap length c.deref-group-items.ensures.value in
    let cs = classes_so_far f.columns.now rows in
    let long = runs_long f.leaves.items cs gs folds.runs in
    let all : take k cs ≡ cs = take_all k cs (omega arith) in
    ap (flat_map (class_told (senses [] having) (senses [] keys) (senses [] items))) (sym all) ∙ c.loop-group.invariant.no_fault rows folds having keys items lifted
