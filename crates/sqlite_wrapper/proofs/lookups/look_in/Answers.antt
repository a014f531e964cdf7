use Rattle.std.proofs.Common.{◌≡◌, true, IfSome, map, sym, subst, refl, rules}
use Rattle.sqlite.specs.Held.{state}
use Rattle.sqlite.specs.Effect.{Database}
use Rattle.sqlite.specs.View.{IsShaped}
use Rattle.sqlite_trees.specs.declared.store.Shape.TheVariants as shape
use Rattle.med_value.specs.Datum.{datum, cell}
use Rattle.wrapper_parts.specs.Scans.{form_of}
use Rattle.sqlite_tables.specs.Prelude.{row_in, entries_of, IsLookup, rows_with}
use Rattle.sqlite_tables.proofs.Settled.{known_after, reads_none, reads_then, sure_first, sure_then, sure_same}
use Rattle.sqlite_wrapper.proofs.Looking.{unanswered, looked_up}
use Rattle.sqlite_wrapper.proofs.lookups.look_in.Goals as goal

pub returns-in_default-clause-answered : goal.returns-in_default-clause-answered
returns-in_default-clause-answered g c =
    unanswered g.S.SourceStore.honest c.args.shape.now (entries_of (state g.S.Store c.args.conn.now).now c.args.shape.now) c.args.scan _
    c.args.had refl c.requires.had

pub rows_with-requires-clause-known : goal.rows_with-requires-clause-known
rows_with-requires-clause-known g c h =
    known_after (state g.S.Store c.args.conn.now).now (state g.S.Store c.lookup_of.new.conn).now c.args.shape.now
    (c.lookup_of.ensures.same h) (c.requires.known h)

pub rows_with-requires-clause-shaped : goal.rows_with-requires-clause-shaped
rows_with-requires-clause-shaped g c h =
    subst (λ (d : Database). IsShaped shape.Table (entries_of d c.args.shape.now)) (sym (c.lookup_of.ensures.same h)) (c.requires.shaped h)

pub rows_with-requires-clause-is : goal.rows_with-requires-clause-is
rows_with-requires-clause-is g c h =
    subst (λ (d : Database). IsLookup c.args.shape.now (entries_of d c.args.shape.now) c.in-Ok.lookup) (sym (c.lookup_of.ensures.same h))
    (c.in-Ok.ensures.is h)

pub returns-in-Ok-rows_with-clause-answered : goal.returns-in-Ok-rows_with-clause-answered
returns-in-Ok-rows_with-clause-answered g c =
    let l = c.args.shape.now in
    let db = (state g.S.Store c.args.conn.now).now in
    let form = form_of c.in-Some.found in
    let v = datum c.value_at-value.result.now in
    let v_is : v ≡ cell (map datum c.args.scan.params.items) form.parameter = search rules in
    looked_up c.in-Ok-rows_with.rows (λ p. p.items) g.S.SourceStore.honest l (entries_of db l) c.args.scan c.with_rows.result
    c.in-Ok.lookup form v c.in-Some.ensures
    c.with_rows.ensures.shows c.with_rows.ensures.lookup c.in-Ok.ensures.is c.in-Ok.ensures.column v_is c.with_rows.ensures.none
    c.with_rows.ensures.filled
    (λ h. subst (λ (d : Database). IfSome c.in-Ok-rows_with.rows
    (λ p. map (row_in l) p.items ≡ rows_with l c.in-Ok.lookup.column v (entries_of d l))) (c.lookup_of.ensures.same h)
    (c.in-Ok-rows_with.ensures.rows h))

pub returns-in_default-clause-sure_answered : goal.returns-in_default-clause-sure_answered
returns-in_default-clause-sure_answered g c h had =
    unanswered true c.args.shape.now (entries_of (state g.S.Store c.args.conn.now).now c.args.shape.now) c.args.scan _ c.args.had refl
    (λ yes. had)

pub returns-in_default-clause-reads : goal.returns-in_default-clause-reads
returns-in_default-clause-reads g c = reads_none (state g.S.Store c.args.conn.now) c.args.shape.now

pub returns-in-Err-rows_with-clause-reads : goal.returns-in-Err-rows_with-clause-reads
returns-in-Err-rows_with-clause-reads g c = reads_then c.lookup_of.ensures.reads c.rows_with.ensures.reads

pub returns-in-Ok-rows_with-clause-reads : goal.returns-in-Ok-rows_with-clause-reads
returns-in-Ok-rows_with-clause-reads g c = reads_then c.lookup_of.ensures.reads c.rows_with.ensures.reads

pub returns-in-Ok-rows_with-clause-sure_answered : goal.returns-in-Ok-rows_with-clause-sure_answered
returns-in-Ok-rows_with-clause-sure_answered g c h had =
    let l = c.args.shape.now in
    let db = (state g.S.Store c.args.conn.now).now in
    let form = form_of c.in-Some.found in
    let v = datum c.value_at-value.result.now in
    let v_is : v ≡ cell (map datum c.args.scan.params.items) form.parameter = search rules in
    let first = c.lookup_of.ensures.reads in
    let next = c.rows_with.ensures.reads in
    let fixed = sure_same first next h in
    let is = c.in-Ok.ensures.sure_is (sure_first next h) had in
    let there = subst (λ (d : Database). IsLookup l (entries_of d l) c.in-Ok.lookup) (sym fixed) is in
    looked_up c.in-Ok-rows_with.rows (λ p. p.items) true l (entries_of db l) c.args.scan c.with_rows.result c.in-Ok.lookup form v
    c.in-Some.ensures
    c.with_rows.ensures.shows c.with_rows.ensures.lookup (λ yes. is) c.in-Ok.ensures.column v_is c.with_rows.ensures.none
    c.with_rows.ensures.filled
    (λ yes. subst (λ (d : Database). IfSome c.in-Ok-rows_with.rows
    (λ p. map (row_in l) p.items ≡ rows_with l c.in-Ok.lookup.column v (entries_of d l))) fixed
    (c.in-Ok-rows_with.ensures.sure_rows (sure_then first next h) there))

pub returns-in_err-look-clause-reads : goal.returns-in_err-look-clause-reads
returns-in_err-look-clause-reads g c = reads_none (state g.S.Store c.args.conn.now) c.args.shape.now
