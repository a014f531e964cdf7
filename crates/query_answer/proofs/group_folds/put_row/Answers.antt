use Rattle.std.proofs.Common.{◌≡◌, ◌<◌, true, false, map, length, sym, ap, ◌∙◌, arith}
use Rattle.std.proofs.lemmas.List.{length-map}
use borrow.Author.Tests.{eqb-true}
use Rattle.std.specs.List.{list_any}
use Rattle.indexmap.specs.IndexSet.{insert_key}
use Rattle.med_value.specs.Datum.{tuple}
use Rattle.med_query.specs.Prelude.{tuple_eq, key_of}
use Rattle.med_query.proofs.Telling.{if_ok_then}
use Rattle.query_answer.specs.Keys.{key_in, number_in}
use Rattle.query_answer.specs.Running.{runnings_in}
use Rattle.query_answer.proofs.KeyNumbers.{any_seen, inserted_seen, number_seen}
use Rattle.query_answer.proofs.KeptGroups.{are_ready, key_there, kept_alone, kept_found, kept_new, one_there, position_known, some_column}
use Rattle.query_answer.proofs.group_folds.put_row.Goals as goal

pub add_to-requires : goal.add_to-requires
add_to-requires c =
    let columns = c.args.columns.now in
    let ls = c.args.leaves.now in
    let keys = map key_in c.args.seen.now.keys in
    let gs = runnings_in c.args.groups.now.items in
    let n = length-map c.args.groups.now.items (λ g. g.items) in
    let lt : 0 < length gs = one_there columns ls keys gs (eqb-true (length columns) 0 (sym c.if-is_empty.ensures)) c.requires.kept in
    record { there = omega arith; ready = are_ready columns ls keys gs c.requires.kept }

pub add_to-requires-in-Some : goal.add_to-requires-in-Some
add_to-requires-in-Some c =
    let columns = c.args.columns.now in
    let ls = c.args.leaves.now in
    let known = c.args.seen.now.keys in
    let keys = map key_in known in
    let gs = runnings_in c.args.groups.now.items in
    let n = length-map c.args.groups.now.items (λ g. g.items) in
    let m = length-map known key_in in
    let at = position_known (λ s. tuple_eq (key_in c.put_key.new.key) (key_in s)) known c.in-Some.number c.in-Some.ensures.index in
    let below = at.1 in
    let lt : c.in-Some.number < length gs = key_there columns ls keys gs c.in-Some.number (some_column (length columns) c.if-is_empty.ensures) (omega arith) c.requires.kept in
    record { there = omega arith; ready = are_ready columns ls keys gs c.requires.kept }

pub returns-then-is_empty : goal.returns-then-is_empty
returns-then-is_empty c =
    let columns = c.args.columns.now in
    let keys = map key_in c.args.seen.now.keys in
    if_ok_then c.add_to.result _ _ (λ u f rows h. kept_alone columns c.args.leaves.now keys (runnings_in c.args.groups.now.items) rows (tuple c.args.row.now) keys (runnings_in c.add_to.new.groups.items) (eqb-true (length columns) 0 (sym c.if-is_empty.ensures)) f h) c.add_to.ensures

pub returns-in-Some : goal.returns-in-Some
returns-in-Some c =
    let columns = c.args.columns.now in
    let known = c.args.seen.now.keys in
    let keys = map key_in known in
    let k = key_in c.put_key.new.key in
    let e = c.in_ok-put_key.ensures in
    let at = position_known (λ s. tuple_eq k (key_in s)) known c.in-Some.number c.in-Some.ensures.index in
    let number = at.0 ∙ number_seen key_in tuple_eq known k ∙ ap (number_in tuple_eq keys) e in
    let there : list_any (tuple_eq (key_of columns (tuple c.args.row.now))) keys ≡ true = ap (λ t. list_any (tuple_eq t) keys) (sym e) ∙ sym (any_seen key_in (tuple_eq k) known) ∙ sym c.in-Some.ensures.found in
    if_ok_then c.add_to-in-Some.result _ _ (λ u f rows h. kept_found columns c.args.leaves.now keys (runnings_in c.args.groups.now.items) rows (tuple c.args.row.now) c.in-Some.number (runnings_in c.add_to-in-Some.new.groups.items) (some_column (length columns) c.if-is_empty.ensures) number there f h) c.add_to-in-Some.ensures

pub returns-in_ok-insert-in-None : goal.returns-in_ok-insert-in-None
returns-in_ok-insert-in-None c rows h =
    let columns = c.args.columns.now in
    let known = c.args.seen.now.keys in
    let keys = map key_in known in
    let k = key_in c.put_key.new.key in
    let e = c.in_ok-put_key.ensures in
    let gone : list_any (tuple_eq (key_of columns (tuple c.args.row.now))) keys ≡ false = ap (λ t. list_any (tuple_eq t) keys) (sym e) ∙ sym (any_seen key_in (tuple_eq k) known) ∙ sym c.in-None.ensures.found in
    kept_new columns c.args.leaves.now keys (runnings_in c.args.groups.now.items) rows (tuple c.args.row.now) (map key_in c.insert.new.self.keys) (runnings_in c.add_group.new.groups.items) (some_column (length columns) c.if-is_empty.ensures) gone
    (ap (map key_in) c.in_ok-insert-in-None.ensures.keys ∙ inserted_seen key_in tuple_eq known c.replace.result ∙ ap (λ x. insert_key tuple_eq keys (key_in x)) c.replace.ensures.value ∙ ap (insert_key tuple_eq keys) e) c.in_ok-add_group-in-None.ensures h
