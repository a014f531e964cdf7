use Rattle.std.proofs.Common.{◌≡◌, ◌∷◌, ◌++◌, [], Err, IfErr, refl, ap, sym, subst, true, map, rules, append-nil}
use Rattle.med_value.specs.Datum.{tuple}
use Rattle.med_value.specs.declared.cause.Cause.TheVariants.{NotNull}
use Rattle.fdw_api.specs.declared.interface.Fault.TheVariants.{Refused}
use Rattle.fdw_api.specs.Kinds.{Inserts, Updates}
use Rattle.wrapper_parts.specs.Staged.{change_is}
use Rattle.sqlite_writes.specs.Rewriting.{has_place}
use Rattle.sqlite_writes.specs.Splitting.{key_for, is_holdable, IsKeyless}
use Rattle.sqlite_writes.proofs.Splits.{gone_on, fresh_on, one_pushed, fit_on, keyed_on, all_on, has_its_key, each_row, lacks}
use Rattle.sqlite_writes.proofs.split.split_changes.Goals as goal

pub loop-change-preserved-in_ok-push-in-Insert : goal.loop-change-preserved-in_ok-push-in-Insert
loop-change-preserved-in_ok-push-in-Insert c =
    let t = c.args.shape.now in
    let cs = map change_is c.loop-change.change-iterator.rest.items in
    let ds = map change_is c.next.new.self.rest.items in
    let x = tuple c.in-Insert.row in
    let row = c.in_ok-keyed-in-Insert.field-0 in
    let ce : cs ≡ Inserts x ∷ ds = search rules in
    let fit = fit_on t (Inserts x) cs ds c.loop-change.invariant.fit ce in
    let placed : has_place t x ≡ true = c.in_ok-keyed-in-Insert.ensures.placed t fit.0 in
    let pushed : map tuple c.push.new.self.items ≡ map tuple c.loop-change.fresh.items ++ x ∷ [] =
    one_pushed c.loop-change.fresh.items c.push.new.self.items row x (search rules) (ap tuple c.in_ok-keyed-in-Insert.ensures.same) in
    record {
      fit = fit.1;
      gone = gone_on c.loop-change.gone.items c.loop-change.gone.items (Inserts x) cs ds _ c.loop-change.invariant.gone ce (sym
          (append-nil c.loop-change.gone.items));
      fresh = fresh_on c.loop-change.fresh.items c.push.new.self.items (Inserts x) cs ds _ c.loop-change.invariant.fresh ce pushed;
      placed = all_on (has_place t) _ _ x c.loop-change.invariant.placed pushed placed;
      holdable = all_on is_holdable _ _ x c.loop-change.invariant.holdable pushed c.in_ok-keyed-in-Insert.ensures.holdable;
      keyed = keyed_on _ (Inserts x) cs ds c.loop-change.invariant.keyed ce (has_its_key t x placed);
    }

pub loop-change-preserved-in_ok-push-in-Update-2 : goal.loop-change-preserved-in_ok-push-in-Update-2
loop-change-preserved-in_ok-push-in-Update-2 c =
    let t = c.args.shape.now in
    let cs = map change_is c.loop-change.change-iterator.rest.items in
    let ds = map change_is c.next.new.self.rest.items in
    let x = tuple c.in-Update.row in
    let id = c.in-Update.id in
    let row = c.in_ok-keyed-in-Update.field-0 in
    let ce : cs ≡ Updates id x ∷ ds = search rules in
    let fit = fit_on t (Updates id x) cs ds c.loop-change.invariant.fit ce in
    let placed : has_place t x ≡ true = c.in_ok-keyed-in-Update.ensures.placed t fit.0 in
    let key : c.push-in-Update.new.self.items ≡ c.loop-change.gone.items ++ key_for id ∷ [] = search rules in
    let pushed : map tuple c.push-in-Update-2.new.self.items ≡ map tuple c.loop-change.fresh.items ++ x ∷ [] =
    one_pushed c.loop-change.fresh.items c.push-in-Update-2.new.self.items row x (search rules)
    (ap tuple c.in_ok-keyed-in-Update.ensures.same) in
    record {
      fit = fit.1;
      gone = gone_on c.loop-change.gone.items c.push-in-Update.new.self.items (Updates id x) cs ds _ c.loop-change.invariant.gone ce key;
      fresh = fresh_on c.loop-change.fresh.items c.push-in-Update-2.new.self.items
          (Updates id x) cs ds _ c.loop-change.invariant.fresh ce pushed;
      placed = all_on (has_place t) _ _ x c.loop-change.invariant.placed pushed placed;
      holdable = all_on is_holdable _ _ x c.loop-change.invariant.holdable pushed c.in_ok-keyed-in-Update.ensures.holdable;
      keyed = keyed_on _ (Updates id x) cs ds c.loop-change.invariant.keyed ce (has_its_key t x placed);
    }

pub returns-clause-placed : goal.returns-clause-placed
returns-clause-placed c = each_row c.args.shape.now c.loop-change.fresh.items c.loop-change.invariant.placed

pub returns-in_err-keyed-in-Insert-clause-refused : goal.returns-in_err-keyed-in-Insert-clause-refused
returns-in_err-keyed-in-Insert-clause-refused c =
    let cs = map change_is c.loop-change.change-iterator.rest.items in
    let ds = map change_is c.next.new.self.rest.items in
    let x = tuple c.in-Insert.row in
    let ce : cs ≡ Inserts x ∷ ds = search rules in
    let told : c.from_residual.result ≡ Err (Refused NotNull) = search rules in
    subst (λ r. IfErr r (IsKeyless (map change_is c.args.changes.items))) (sym told)
    (refl, lacks cs (Inserts x) ds _ (search rules) ce (c.in_err-keyed-in-Insert.ensures.err.1))

pub returns-in_err-keyed-in-Update-clause-refused : goal.returns-in_err-keyed-in-Update-clause-refused
returns-in_err-keyed-in-Update-clause-refused c =
    let cs = map change_is c.loop-change.change-iterator.rest.items in
    let ds = map change_is c.next.new.self.rest.items in
    let x = tuple c.in-Update.row in
    let ce : cs ≡ Updates c.in-Update.id x ∷ ds = search rules in
    let told : c.from_residual-in_err-keyed-in-Update.result ≡ Err (Refused NotNull) = search rules in
    subst (λ r. IfErr r (IsKeyless (map change_is c.args.changes.items))) (sym told)
    (refl, lacks cs (Updates c.in-Update.id x) ds _ (search rules) ce (c.in_err-keyed-in-Update.ensures.err.1))
