use Rattle.std.proofs.Common.{◌≡◌, ◌∙◌, true, false, List, [], Option, Some, None, map, refl, sym, subst}
use Rattle.med_value.specs.Datum.{tuple}
use Rattle.med_query.specs.Form.{form_of}
use Rattle.med_syntax.specs.Prelude.{WriteTree, write_tree}
use Rattle.med_binder.specs.declared.bound.BoundQuery.{BoundQuery}
use Rattle.med_exec.specs.Slots.{states}
use Rattle.med_catalog.specs.Prelude.{Objects, objects}
use Rattle.med_binder.specs.Places.{Attached, attached}
use Rattle.bind_write.specs.Binding.{IsQueryOf}
use Rattle.med_exec.specs.BoundRunning.{IsReady as IsBoundReady}
use Rattle.sql_meaning.specs.Sizes.{is_large_form}
use Rattle.med_statements.specs.Ready.{AreReady}
use Rattle.med_world.specs.Writing.{not_bound, in_use}
use Rattle.med_statements.proofs.Typed.{HasQuery, has_query, bound_as}
use Rattle.med_statements.proofs.Runs.{none_asked, asked, not_answered, crowded, untyped, can_alone, can_answered, ends_ok, ends_err}
use Rattle.med_statements.proofs.running.run_write.Goals as goal

-- it is not bound
pub returns-in-Err-clause-err : goal.returns-in-Err-clause-err
returns-in-Err-clause-err g c = not_bound c.in-Err.ensures.refused refl

-- a cursor reads the table
pub returns-then-is_leased-clause-err : goal.returns-then-is_leased-clause-err
returns-then-is_leased-clause-err g c = in_use c.in-Ok.ensures.bindable c.if-is_leased.true refl refl

-- no query
pub write_rows-requires : goal.write_rows-requires
write_rows-requires g c =
    can_alone c.written_rows_are_typed.ensures (objects c.args.catalog.now) c.args.user.now (map attached c.args.bound.now) (states g.W.Wrapper.meaning c.args.slots.now.items)
    (write_tree c.args.statement) c.in-Ok.write c.requires.ready (c.requires.unread c.if-is_leased.false) c.in-Ok.ensures.bindable c.requires.clean c.in-Ok.ensures.meant (sym c.take.ensures.value ∙ c.in_default.is)

pub returns-in_default-clause-ok : goal.returns-in_default-clause-ok
returns-in_default-clause-ok g c =
    let o = objects c.args.catalog.now in
    let bound = map attached c.args.bound.now in
    let t = write_tree c.args.statement in
    let old = states g.W.Wrapper.meaning c.args.slots.now.items in
    let none : IsQueryOf o bound t None = subst (IsQueryOf o bound t) (sym c.take.ensures.value ∙ c.in_default.is) c.in-Ok.ensures.meant.query in
    let can = can_alone c.written_rows_are_typed.ensures o c.args.user.now bound old t c.in-Ok.write c.requires.ready (c.requires.unread c.if-is_leased.false) c.in-Ok.ensures.bindable c.requires.clean c.in-Ok.ensures.meant (sym c.take.ensures.value ∙ c.in_default.is) in
    ends_ok o c.args.user.now bound t c.in-Ok.write old old (states g.W.Wrapper.meaning c.write_rows.new.slots.items) [] c.write_rows.result c.args.is_leased c.if-is_leased.false c.in-Ok.ensures.bindable c.in-Ok.ensures.meant
    (none_asked o bound t old none) can c.write_rows.ensures.ok

pub returns-in_default-clause-err : goal.returns-in_default-clause-err
returns-in_default-clause-err g c =
    let o = objects c.args.catalog.now in
    let bound = map attached c.args.bound.now in
    let t = write_tree c.args.statement in
    let old = states g.W.Wrapper.meaning c.args.slots.now.items in
    let none : IsQueryOf o bound t None = subst (IsQueryOf o bound t) (sym c.take.ensures.value ∙ c.in_default.is) c.in-Ok.ensures.meant.query in
    ends_err o c.args.user.now bound t c.in-Ok.write old old (states g.W.Wrapper.meaning c.write_rows.new.slots.items) [] c.write_rows.result c.args.is_leased c.if-is_leased.false c.in-Ok.ensures.bindable c.in-Ok.ensures.meant
    (none_asked o bound t old none) c.write_rows.ensures.err

-- a query
query_there : (o : Objects) (bound : List Attached) (t : WriteTree) (q : Option BoundQuery) (b : BoundQuery) → q ≡ Some b → IsQueryOf o bound t q → HasQuery o bound t b
query_there o bound t q b is h = has_query o bound t b (subst (IsQueryOf o bound t) is h)

pub returns-then-is_large_query-clause-err : goal.returns-then-is_large_query-clause-err
returns-then-is_large_query-clause-err g c =
    let o = objects c.args.catalog.now in
    let bound = map attached c.args.bound.now in
    let t = write_tree c.args.statement in
    let b = c.in-Some.query in
    let many : is_large_form (form_of b.select) ≡ true = sym c.is_large_query.ensures ∙ c.if-is_large_query.true in
    crowded o c.args.user.now bound t b (states g.W.Wrapper.meaning c.args.slots.now.items) c.args.is_leased c.in-Ok.ensures.bindable
    (query_there o bound t c.in-Ok.write.query b (sym c.take.ensures.value ∙ c.in-Some.is) c.in-Ok.ensures.meant.query) many

pub run_query-requires : goal.run_query-requires
run_query-requires g c =
    let o = objects c.args.catalog.now in
    let bound = map attached c.args.bound.now in
    let t = write_tree c.args.statement in
    let b = c.in-Some.query in
    let boxes = states g.W.Wrapper.meaning c.args.slots.now.items in
    let h : HasQuery o bound t b = query_there o bound t c.in-Ok.write.query b (sym c.take.ensures.value ∙ c.in-Some.is) c.in-Ok.ensures.meant.query in
    let can : AreReady o bound boxes = record { sound = c.requires.ready.sound; tables = c.requires.ready.tables } in
    let r : IsBoundReady boxes b = c.bound_queries_are_ready.ensures.ready o bound h.query b boxes can (bound_as o c.args.user.now bound t b c.in-Ok.ensures.bindable h) in
    record { kinds = r.kinds; typed = r.typed; counts = r.counts; view = r.view; alike = r.alike; wide = r.wide; safe = r.safe }

pub returns-in-Err-run_query-clause-err : goal.returns-in-Err-run_query-clause-err
returns-in-Err-run_query-clause-err g c =
    let o = objects c.args.catalog.now in
    let bound = map attached c.args.bound.now in
    let t = write_tree c.args.statement in
    let b = c.in-Some.query in
    let few : is_large_form (form_of b.select) ≡ false = sym c.is_large_query.ensures ∙ c.if-is_large_query.false in
    not_answered o c.args.user.now bound t c.in-Ok.write b (states g.W.Wrapper.meaning c.args.slots.now.items) (states g.W.Wrapper.meaning c.run_query.new.slots.items) c.in-Err-run_query.cause
    c.args.is_leased c.if-is_leased.false c.in-Ok.ensures.bindable c.in-Ok.ensures.meant (query_there o bound t c.in-Ok.write.query b (sym c.take.ensures.value ∙ c.in-Some.is) c.in-Ok.ensures.meant.query) few c.run_query.ensures.served c.in-Err-run_query.ensures.err

pub returns-then-not-fits-clause-err : goal.returns-then-not-fits-clause-err
returns-then-not-fits-clause-err g c =
    let o = objects c.args.catalog.now in
    let bound = map attached c.args.bound.now in
    let t = write_tree c.args.statement in
    let b = c.in-Some.query in
    let few : is_large_form (form_of b.select) ≡ false = sym c.is_large_query.ensures ∙ c.if-is_large_query.false in
    untyped c.written_rows_are_typed.ensures o c.args.user.now bound t c.in-Ok.write b (states g.W.Wrapper.meaning c.args.slots.now.items) (states g.W.Wrapper.meaning c.run_query.new.slots.items)
    (map tuple c.in-Ok-run_query.rows.items) c.args.is_leased c.if-is_leased.false c.requires.ready c.in-Ok.ensures.bindable c.requires.clean c.in-Ok.ensures.meant
    (query_there o bound t c.in-Ok.write.query b (sym c.take.ensures.value ∙ c.in-Some.is) c.in-Ok.ensures.meant.query) c.in-Ok-run_query.ensures.ok few c.run_query.ensures.served
    (λ places form. sym c.if-not-fits.true ∙ rw c.as_slice.ensures.value at c.fits.ensures places form)

pub write_rows-requires-2 : goal.write_rows-requires-2
write_rows-requires-2 g c =
    let o = objects c.args.catalog.now in
    let bound = map attached c.args.bound.now in
    let t = write_tree c.args.statement in
    let b = c.in-Some.query in
    rw c.as_slice-2.ensures.value (can_answered o bound (states g.W.Wrapper.meaning c.args.slots.now.items) (states g.W.Wrapper.meaning c.run_query.new.slots.items) t c.in-Ok.write b
    (map tuple c.in-Ok-run_query.rows.items) c.requires.ready (c.requires.unread c.if-is_leased.false) c.run_query.ensures.served c.in-Ok.ensures.meant
    (query_there o bound t c.in-Ok.write.query b (sym c.take.ensures.value ∙ c.in-Some.is) c.in-Ok.ensures.meant.query)
    (λ places form. sym c.if-not-fits.false ∙ rw c.as_slice.ensures.value at c.fits.ensures places form))

pub returns-clause-ok : goal.returns-clause-ok
returns-clause-ok g c =
    let o = objects c.args.catalog.now in
    let bound = map attached c.args.bound.now in
    let t = write_tree c.args.statement in
    let b = c.in-Some.query in
    let old = states g.W.Wrapper.meaning c.args.slots.now.items in
    let now = states g.W.Wrapper.meaning c.run_query.new.slots.items in
    let answer = map tuple c.in-Ok-run_query.rows.items in
    let few : is_large_form (form_of b.select) ≡ false = sym c.is_large_query.ensures ∙ c.if-is_large_query.false in
    let h = query_there o bound t c.in-Ok.write.query b (sym c.take.ensures.value ∙ c.in-Some.is) c.in-Ok.ensures.meant.query in
    let can = can_answered o bound old now t c.in-Ok.write b answer c.requires.ready (c.requires.unread c.if-is_leased.false) c.run_query.ensures.served c.in-Ok.ensures.meant h
    (λ places form. sym c.if-not-fits.false ∙ rw c.as_slice.ensures.value at c.fits.ensures places form) in
    ends_ok o c.args.user.now bound t c.in-Ok.write old now (states g.W.Wrapper.meaning c.write_rows-2.new.slots.items) answer c.write_rows-2.result c.args.is_leased c.if-is_leased.false c.in-Ok.ensures.bindable c.in-Ok.ensures.meant
    (asked o bound t b old now answer h few c.run_query.ensures.served (c.bound_queries_are_ready.ensures.once b old now c.in-Ok-run_query.ensures.once) c.in-Ok-run_query.ensures.ok) can (rw c.as_slice-2.ensures.value at c.write_rows-2.ensures.ok)

pub returns-clause-err : goal.returns-clause-err
returns-clause-err g c =
    let o = objects c.args.catalog.now in
    let bound = map attached c.args.bound.now in
    let t = write_tree c.args.statement in
    let b = c.in-Some.query in
    let old = states g.W.Wrapper.meaning c.args.slots.now.items in
    let now = states g.W.Wrapper.meaning c.run_query.new.slots.items in
    let answer = map tuple c.in-Ok-run_query.rows.items in
    let few : is_large_form (form_of b.select) ≡ false = sym c.is_large_query.ensures ∙ c.if-is_large_query.false in
    let h = query_there o bound t c.in-Ok.write.query b (sym c.take.ensures.value ∙ c.in-Some.is) c.in-Ok.ensures.meant.query in
    ends_err o c.args.user.now bound t c.in-Ok.write old now (states g.W.Wrapper.meaning c.write_rows-2.new.slots.items) answer c.write_rows-2.result c.args.is_leased c.if-is_leased.false c.in-Ok.ensures.bindable c.in-Ok.ensures.meant
    (asked o bound t b old now answer h few c.run_query.ensures.served (c.bound_queries_are_ready.ensures.once b old now c.in-Ok-run_query.ensures.once) c.in-Ok-run_query.ensures.ok) (rw c.as_slice-2.ensures.value at c.write_rows-2.ensures.err)
