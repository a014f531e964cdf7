use Rattle.std.proofs.Common.{◌≡◌, ◌∙◌, Some, true, length, nat_eq, nat_lt, refl, rules, sym, ap, subst, ℕ, w64, FitsSigned}
use Rattle.std.proofs.lemmas.Int.{to_z-of_z}
use Rattle.sqlite.specs.Held.{state}
use Rattle.sqlite_wrapper.specs.declared.scans.KeyScan.{KeyScan}
use Rattle.sqlite_tables.specs.Prelude.{Layout, layout_at, layout_count, IsKnown, IsSure, ReadsOnly}
use Rattle.sqlite_tables.proofs.Settled.{reads_none}
use Rattle.sqlite_wrapper.proofs.Maps.{sets}
use Rattle.sqlite_wrapper.proofs.LiveScans.{at_some, if_some}
use Rattle.sqlite_wrapper.proofs.Turned.{wants, stays, turned_rows, turned_read, some_if}
use Rattle.sqlite_wrapper.proofs.rows.read_page.Goals as goal

pub returns-in_default-clause-turned : goal.returns-in_default-clause-turned
returns-in_default-clause-turned g c =
    let w = at_some _ c.requires.there in
    some_if _ _ w.0 w.1 (
      w.0,
      (w.1, λ q ne. refl),
      stays g.S.SourceStore.honest _ w.0
          (sym (if_some _ _ w.0 w.1 c.page_wanted.ensures) ∙ c.in_default.is),
    )

pub shape_of-shape-requires-clause-within : goal.shape_of-shape-requires-clause-within
shape_of-shape-requires-clause-within g c =
    let w = at_some _ c.requires.there in
    let v = wants w.0 c.in-Some.wanted (sym (if_some _ _ w.0 w.1 c.page_wanted.ensures) ∙ c.in-Some.is) in
    subst (λ (t : ℕ). nat_lt t layout_count ≡ true) (sym v.0) (if_some _ _ w.0 w.1 c.requires.within)

pub page_between-requires-clause-known : goal.page_between-requires-clause-known
page_between-requires-clause-known g c h =
    let w = at_some _ c.requires.there in
    let v = wants w.0 c.in-Some.wanted (sym (if_some _ _ w.0 w.1 c.page_wanted.ensures) ∙ c.in-Some.is) in
    subst (λ (l : Layout). ∥ IsKnown c.args.conn.now.schema l ∥₁) (sym (c.shape_of-shape.ensures ∙ ap layout_at v.0))
    (if_some _ _ w.0 w.1 (c.requires.known h))

pub returns-in-Ok-clause-turned : goal.returns-in-Ok-clause-turned
returns-in-Ok-clause-turned g c =
    let w = at_some _ c.requires.there in
    let v = wants w.0 c.in-Some.wanted (sym (if_some _ _ w.0 w.1 c.page_wanted.ensures) ∙ c.in-Some.is) in
    let fl : FitsSigned w64 c.in-Some.wanted.low = search rules in
    let fh : FitsSigned w64 c.in-Some.wanted.high = search rules in
    let a = to_z-of_z w64 c.in-Some.wanted.low fl in
    let b = to_z-of_z w64 c.in-Some.wanted.high fh in
    let n : KeyScan = record w.0 { page = c.in-Ok.page; at = 0; full = nat_eq (length c.in-Ok.page.items) 64 } in
    some_if _ _ w.0 w.1 (
      n,
      sets c.args.scans.now c.turn_page.new.scans c.args.number (Some n) (if_some _ _ w.0 w.1 c.turn_page.ensures),
      record {
        shows = refl;
        room = refl;
        keys = (refl, refl, refl);
        lookup = refl;
        rows = λ h.
            turned_rows (state g.S.Store c.args.conn.now).now c.shape_of-shape.result.now c.in-Some.wanted.low c.in-Some.wanted.high w.0 n
            c.in-Ok.page.items
            (record { table = refl; page = refl; at_start = refl; full = refl; low = refl; high = refl; open_is = refl })
            (c.shape_of-shape.ensures ∙ ap layout_at v.0) v.1 v.2 v.3 v.4 v.5 (rw (a, b) at (c.in-Ok.ensures.joins h));
        read = turned_read n c.in-Ok.page.items refl refl refl;
      },
    )

pub returns-in_default-clause-sure_turned : goal.returns-in_default-clause-sure_turned
returns-in_default-clause-sure_turned g c =
    let w = at_some _ c.requires.there in
    some_if _ _ w.0 w.1 (λ sure. (
      w.0,
      (w.1, λ q ne. refl),
      stays true _ w.0
          (sym (if_some _ _ w.0 w.1 c.page_wanted.ensures) ∙ c.in_default.is),
    ))

pub returns-in_default-clause-reads : goal.returns-in_default-clause-reads
returns-in_default-clause-reads g c =
    let w = at_some _ c.requires.there in
    some_if _ _ w.0 w.1 (reads_none (state g.S.Store c.args.conn.now) (layout_at w.0.table))

pub returns-in-Ok-clause-sure_turned : goal.returns-in-Ok-clause-sure_turned
returns-in-Ok-clause-sure_turned g c =
    let w = at_some _ c.requires.there in
    let v = wants w.0 c.in-Some.wanted (sym (if_some _ _ w.0 w.1 c.page_wanted.ensures) ∙ c.in-Some.is) in
    let fl : FitsSigned w64 c.in-Some.wanted.low = search rules in
    let fh : FitsSigned w64 c.in-Some.wanted.high = search rules in
    let a = to_z-of_z w64 c.in-Some.wanted.low fl in
    let b = to_z-of_z w64 c.in-Some.wanted.high fh in
    let n : KeyScan = record w.0 { page = c.in-Ok.page; at = 0; full = nat_eq (length c.in-Ok.page.items) 64 } in
    some_if _ _ w.0 w.1
    (λ sure. (
      n,
      sets c.args.scans.now c.turn_page.new.scans c.args.number (Some n) (if_some _ _ w.0 w.1 c.turn_page.ensures),
      record {
        shows = refl;
        room = refl;
        keys = (refl, refl, refl);
        lookup = refl;
        rows = λ h.
            turned_rows (state g.S.Store c.args.conn.now).now c.shape_of-shape.result.now c.in-Some.wanted.low c.in-Some.wanted.high w.0 n
            c.in-Ok.page.items
            (record { table = refl; page = refl; at_start = refl; full = refl; low = refl; high = refl; open_is = refl })
            (c.shape_of-shape.ensures ∙ ap layout_at v.0) v.1 v.2 v.3 v.4 v.5
            (rw (a, b) at (c.in-Ok.ensures.sure_joins (subst
            (λ (l : Layout). IsSure (state g.S.Store c.args.conn.now) (state g.S.Store c.page_between.new.conn) l)
            (sym (c.shape_of-shape.ensures ∙ ap layout_at v.0)) sure)));
        read = turned_read n c.in-Ok.page.items refl refl refl;
      },
    ))

pub returns-in-Ok-clause-reads : goal.returns-in-Ok-clause-reads
returns-in-Ok-clause-reads g c =
    let w = at_some _ c.requires.there in
    let v = wants w.0 c.in-Some.wanted (sym (if_some _ _ w.0 w.1 c.page_wanted.ensures) ∙ c.in-Some.is) in
    some_if _ _ w.0 w.1 (subst (λ (l : Layout). ReadsOnly (state g.S.Store c.args.conn.now) (state g.S.Store c.page_between.new.conn) l)
    (c.shape_of-shape.ensures ∙ ap layout_at v.0) c.page_between.ensures.reads)

pub returns-in-Err-clause-reads : goal.returns-in-Err-clause-reads
returns-in-Err-clause-reads g c =
    let w = at_some _ c.requires.there in
    let v = wants w.0 c.in-Some.wanted (sym (if_some _ _ w.0 w.1 c.page_wanted.ensures) ∙ c.in-Some.is) in
    some_if _ _ w.0 w.1 (subst (λ (l : Layout). ReadsOnly (state g.S.Store c.args.conn.now) (state g.S.Store c.page_between.new.conn) l)
    (c.shape_of-shape.ensures ∙ ap layout_at v.0) c.page_between.ensures.reads)

pub returns-in_err-look-clause-reads : goal.returns-in_err-look-clause-reads
returns-in_err-look-clause-reads g c =
    let w = at_some _ c.requires.there in
    some_if _ _ w.0 w.1 (reads_none (state g.S.Store c.args.conn.now) (layout_at w.0.table))
