-- An insert text puts its row in where no row has its key, and is refused by the primary key only where one has.
use Rattle.std.proofs.Common.{◌≡◌, ◌<◌, ◌≤◌, inl, inr, ℕ, zero, suc, ◌-◌, ◌/◌, ℤ, Bool, true, false, not, cond, ◌&&◌, List, [], ◌∷◌, ◌++◌}
use Rattle.std.proofs.Common.{map, length, drop, Option, None, Some, Ok, Err, Result, MatchBool, option_map, slice_index_or, refl, sym}
use Rattle.std.proofs.Common.{ap, ap₂, subst, ◌∙◌, arith, length-append, append-nil}
use Rattle.std.specs.Prelude.{if◌then◌else◌}
use Rattle.std.proofs.Math.Nat.{div_self}
use Rattle.std.proofs.lemmas.Bool.{and_parts, cases_Bool, not-true}
use Rattle.std.proofs.lemmas.List.{length-map, take_all}
use Rattle.sqlite.specs.declared.types.Value.{Value}
use Rattle.sqlite.specs.declared.types.Value.TheVariants.{Null, Int}
use Rattle.sqlite.specs.Order.{Row, column}
use Rattle.sqlite.specs.Ops.{unary}
use Rattle.sqlite.specs.Tree.{Trees, put_row}
use Rattle.sqlite.specs.Edit.{Edit, edit_of, edited, is_taken, are_fresh, with_rowid, put_all}
use Rattle.sqlite.specs.Rows.{Written, Task, Inserts, Edited, Sourced, stamped, rowids_for, count_of}
use Rattle.sqlite.specs.Does.{Tally, Does, AtPlace, OnRows, Concludes}
use Rattle.sqlite.specs.Effect.{Database, edit_error, IsSource, RefusesSource, value_rows}
use Rattle.sqlite.specs.Rowids.TheVariants.{Chosen, Above}
use Rattle.sqlite_rules.specs.Cast.{cast, cast_row, cast_all}
use Rattle.sqlite_rules.specs.Edit.{Applies, IsRefused, taken_by}
use Rattle.sqlite_rules.specs.Action.{Writes, Leads, works}
use Rattle.sqlite_rules.specs.declared.error.Refusal.{Refusal}
use Rattle.sqlite_rules.specs.declared.error.Refusal.TheVariants.{Violates, Mismatch, NoRowid, BadReference, TooDeep}
use Rattle.sqlite.specs.Kind.{Kind}
use Rattle.sqlite.specs.Kind.TheVariants.{Integer}
use Rattle.sqlite_sql.specs.Term.{Term, eval_all}
use Rattle.sqlite.specs.Command.{Command}
use Rattle.sqlite.specs.Command.TheVariants.{Insert}
use Rattle.sqlite.specs.Source.TheVariants.{Values}
use Rattle.sqlite_schema.specs.declared.schema.Keys.TheVariants.{Enforced}
use Rattle.sqlite_schema.specs.declared.schema.Constraint.TheVariants.{PrimaryKey, Datatype, NotNull, Check, Unique, ForeignKey}
use Rattle.sqlite_schema.specs.declared.schema.Column.{Column}
use Rattle.sqlite_schema.specs.declared.schema.Table.{Table}
use Rattle.sqlite_schema.specs.declared.schema.Schema.{Schema}
use Rattle.sqlite_trees.specs.declared.error.StoreError.{StoreError}
use Rattle.sqlite_trees.specs.declared.error.StoreError.TheVariants.{OutOfMemory, Io, Corrupt, Full, Broken, Unstorable}
use Rattle.sqlite_resolve.specs.declared.compiled.Compiled.{Compiled}
use Rattle.sqlite.specs.declared.error.ErrorCode.TheVariants as code
use Rattle.sqlite.specs.declared.error.Error.{Error}
use Rattle.sqlite.specs.declared.error.Error.TheVariants.{SqliteFailure}
use Rattle.sqlite.specs.Given.{IsPlain}
use Rattle.sqlite.specs.Clock.{timed}
use Rattle.sqlite.specs.State.{State, mode_of, Executes, ExecutesIn, ExecutesInside, IsNotRun, IsNoStatement, store_error, IsMisplaced}
use Rattle.sqlite.specs.State.{RunsCommand, shows_rows, text_of}
use Rattle.sqlite.proofs.Callers.{command_of, runs_as, one_step}
use Rattle.sqlite_looks.specs.Changes.{cell_term}
use Rattle.med_value.specs.Datum.{Datum, NoValue, Whole, Chars, Logic, Tuple}
use Rattle.med_value.specs.declared.value.ColType.{ColType}
use Rattle.med_value.specs.declared.value.ColType.TheVariants as types
use Rattle.fdw_api.specs.Prelude.{cell_fits, has_kind, is_clean, row_fits}
use Rattle.sqlite_tables.specs.Texts.{IsInsertInto, IsUnread, kind_for, stored_kind}
use Rattle.sqlite_writes.specs.Stored.{inserted_cells, is_placed, stored, stored_at, stored_row}
use Rattle.sqlite_writes.specs.Changes.{PutsIn}
use Rattle.sqlite_writes.proofs.Steps.{went, same_value, others_kept}

-- ---- what a column keeps as it is

either : (b : Bool) (x : Value) → cond b x x ≡ x
either true x = refl
either false x = refl

cast_null : cast Integer Null ≡ Null
unfolding unary
cast_null = either _ Null

cast_int : (n : ℤ) → cast Integer (Int n) ≡ Int n
unfolding unary
cast_int n = either _ (Int n)

-- a value of a column's type is stored as it is
pub kept_cell : (k : ColType) (d : Datum) → cell_fits (Some k) d ≡ true → cast (kind_for k) (stored d) ≡ stored d
kept_cell types.Int NoValue fits = cast_null
kept_cell types.Int (Whole n) fits = cast_int n
kept_cell types.Int (Chars t) fits = absurd (cc)
kept_cell types.Int (Logic b) fits = absurd (cc)
kept_cell types.Text NoValue fits = refl
kept_cell types.Text (Whole n) fits = absurd (cc)
kept_cell types.Text (Chars t) fits = refl
kept_cell types.Text (Logic b) fits = absurd (cc)
kept_cell types.Bool NoValue fits = cast_null
kept_cell types.Bool (Whole n) fits = absurd (cc)
kept_cell types.Bool (Chars t) fits = absurd (cc)
kept_cell types.Bool (Logic b) fits = cast_int _

abbrev cast_kinds : List Kind → Row → Row
cast_kinds [] vs = vs
cast_kinds (k ∷ ks) [] = []
cast_kinds (k ∷ ks) (v ∷ vs) = cast k v ∷ cast_kinds ks vs

by_kinds : (cs : List Column) (vs : Row) → cast_all cs vs ≡ cast_kinds (map (λ c. c.kind) cs) vs
by_kinds [] vs = refl
by_kinds (c ∷ cs) [] = refl
by_kinds (c ∷ cs) (v ∷ vs) = ap (λ more. cast c.kind v ∷ more) (by_kinds cs vs)

-- ---- the choice that a test makes

off : (b : Bool) (P Q : Type 0) → b ≡ false → MatchBool b P Q → Q
off true P Q e h = absurd (cc)
off false P Q e h = h

off_both : (b x : Bool) (P Q : Type 0) → b ≡ false → MatchBool (if b then x else false) P Q → Q
off_both true x P Q e h = absurd (cc)
off_both false x P Q e h = h

both_true : (a b : Bool) → (a && b) ≡ true → a ≡ true
both_true true b e = refl
both_true false b e = e

both_false : (a : Bool) → (not a && true) ≡ false → a ≡ true
both_false true e = refl
both_false false e = cc

-- ---- a refusal by the primary key

abbrev pub taken : Error
taken = SqliteFailure (code.ConstraintViolation PrimaryKey)

no_store : (cause : StoreError) → taken ≡ store_error cause → ⊥
no_store OutOfMemory e = cc
no_store Io e = cc
no_store Corrupt e = cc
no_store Full e = cc
no_store Broken e = cc
no_store Unstorable e = cc

why_is : (why : Option Refusal) → Some taken ≡ option_map edit_error why → why ≡ Some (Violates PrimaryKey)
why_is None e = absurd (cc)
why_is (Some (Violates PrimaryKey)) e = refl
why_is (Some (Violates Datatype)) e = absurd (cc)
why_is (Some (Violates NotNull)) e = absurd (cc)
why_is (Some (Violates Check)) e = absurd (cc)
why_is (Some (Violates Unique)) e = absurd (cc)
why_is (Some (Violates ForeignKey)) e = absurd (cc)
why_is (Some Mismatch) e = absurd (cc)
why_is (Some NoRowid) e = absurd (cc)
why_is (Some BadReference) e = absurd (cc)
why_is (Some TooDeep) e = absurd (cc)

-- where no foreign key acts, a refused write is a refused edit
refused_edit : (schema : Schema) (trees : Trees) (edit : Edit) (why : Refusal) → ((olds news : List Row)
    → works schema Enforced 0 edit.table.tree olds news ≡ [])
    → Writes schema Enforced trees edit (Err (Some why)) → IsRefused schema Enforced trees edit why
refused_edit schema trees edit why alone (inl h) = subst (IsRefused schema Enforced trees edit) (let e = h.2 in cc) h.1
refused_edit schema trees edit why alone (inr (inl h)) = absurd (let e = h.3 in cc)
refused_edit schema trees edit why alone (inr (inr h)) =
    absurd (never h.2.0 (subst (λ w. Leads schema Enforced h.2.0 h.0 w (Err (Some why))) (alone (taken_by trees edit) edit.news) h.2.1))
  where
    never : (n : ℕ) → Leads schema Enforced n h.0 [] (Err (Some why)) → ⊥
    never zero k = let e = k.1 in cc
    never (suc n) k = absurd (omega (arith, ap length k.2, length-append k.0 (k.1 ∷ [])))

same_stop : {A : Type 0} {s stop : Option Error} → ◌≡◌ {A = Result A (Option Error)} (Err stop) (Err s) → s ≡ stop
same_stop e = cc

-- a text that is not understood is not refused by the primary key
not_placed : (old : State) (command : Command) → IsMisplaced old command taken → ⊥
not_placed old command (inl h) = let e = h.0 in cc
not_placed old command (inr h) = let e = h.0 in cc

no_statement : (old : State) (text : List ℕ) (params : Row) → IsNoStatement old text params taken → ⊥
no_statement old text params (inl h) = let e = h.2 in cc
no_statement old text params (inr (c, known, inl h)) = let e = h.1 in cc
no_statement old text params (inr (c, known, inr (inl h))) = let e = h.1 in cc
no_statement old text params (inr (c, known, inr (inr h))) = let e = h.1 in cc

unread_alone : (text : List ℕ) (params : Row) (old new : State) → IsUnread old.now.schema text
    → Executes text params old new (Err taken) → ⊥
unfolding ExecutesIn IsNotRun
unread_alone text params old new bad (inl (inl h)) = no_statement old text params h.0
unread_alone text params old new bad (inl (inr h)) = no_store h.0 h.1
unread_alone text params old new bad (inr h) = let e = sym h.1.is ∙ bad.1 in absurd cc

pub taken_unread : (text : List ℕ) (params : Row) (old new : State) → IsUnread old.now.schema text
    → ExecutesInside 0 text params old new (Err taken) → ⊥
taken_unread text params old new bad (inl h) = unread_alone text params old new bad h.0
taken_unread text params old new bad (inr h) = let e = h.1 in cc

-- ---- the row that the text puts in

-- the terms of an INSERT give the cells of its row
terms_are : (parameters : Row) (cells : List (Option ℕ))
    → eval_all (map cell_term cells) (parameters ∷ []) ≡ map (stored_at parameters) cells
terms_are parameters [] = refl
terms_are parameters (None ∷ cells) = ap (λ more. Null ∷ more) (terms_are parameters cells)
terms_are parameters (Some at ∷ cells) = ap (λ more. column parameters at ∷ more) (terms_are parameters cells)

-- as many terms as a row has are one row
one_row : (parameters : Row) (cells : List (Option ℕ)) (width : ℕ) → zero < width → length (map cell_term cells) ≡ width
    → value_rows parameters width (length (map cell_term cells) / width) (map cell_term cells) ≡ map (stored_at parameters) cells ∷ []
one_row parameters cells width some same =
    let once : length (map cell_term cells) / width ≡ 1 = ap (λ n. n / width) same ∙ div_self some in
    let few : length (map cell_term cells) ≤ width = omega (arith, same) in
    ap (λ n. value_rows parameters width n (map cell_term cells)) once
    ∙ ap (λ ts. eval_all ts (parameters ∷ []) ∷ []) (take_all width (map cell_term cells) few)
    ∙ ap (λ r. r ∷ []) (terms_are parameters cells)

-- a value that fits its column is stored as it is, and so is the NULL past the last
kept_in : (kinds : List ColType) (x : Tuple) (at : ℕ) → row_fits kinds x ≡ true
    → cast (kind_for (slice_index_or kinds at types.Int)) (column (map stored x) at) ≡ column (map stored x) at
kept_in [] [] at fits = cast_null
kept_in [] (v ∷ x) at fits = absurd cc
kept_in (k ∷ kinds) [] at fits = absurd cc
kept_in (k ∷ kinds) (v ∷ x) zero fits = kept_cell k v (and_parts (has_kind k v && is_clean v) (row_fits kinds x) fits).0
kept_in (k ∷ kinds) (v ∷ x) (suc at) fits = kept_in kinds x at (and_parts (has_kind k v && is_clean v) (row_fits kinds x) fits).1

kept_cells : (kinds : List ColType) (x : Tuple) → row_fits (types.Int ∷ kinds) x ≡ true → (cells : List (Option ℕ))
    → cast_kinds (map (stored_kind kinds) cells) (map (stored_at (map stored x)) cells) ≡ map (stored_at (map stored x)) cells
kept_cells kinds x fits [] = refl
kept_cells kinds x fits (None ∷ cells) = ap₂ ◌∷◌ cast_null (kept_cells kinds x fits cells)
kept_cells kinds x fits (Some at ∷ cells) = ap₂ ◌∷◌ (kept_in (types.Int ∷ kinds) x at fits) (kept_cells kinds x fits cells)

module _ (old new : State) (id : ℤ) (rest : Tuple) (text : List ℕ) (tree : ℕ) (cells : List (Option ℕ)) (kinds : List ColType)
    (is : IsInsertInto old.now.schema text tree cells kinds) (fits : row_fits (types.Int ∷ kinds) (Whole id ∷ rest) ≡ true) where
  abbrev params : Row
  params = inserted_cells (Whole id ∷ rest)

  abbrev row : Row
  row = stored_row cells params

  abbrev table : Table
  table = is.target.table

  abbrev db : Trees
  db = old.now.trees

  abbrev task : Task
  task = record { limit = old.step_limit; keys = Enforced; schema = old.now.schema; table = table; params = params }

  abbrev from : Rattle.sqlite_schema.specs.declared.command.Source.Source
  from = Values (map cell_term (Some 0 ∷ cells)) (length (Some 0 ∷ cells))

  stamped_is : stamped table params ≡ params
  stamped_is =
      ap (λ ts. params ++ eval_all ts (drop (length params - length table.stamps.formats) params ∷ [])) is.unstamped ∙ append-nil params

  casted : cast_row table row ≡ row
  casted =
      ap₂ ◌∷◌ (cast_int id)
      (by_kinds table.columns (map (stored_at params) cells) ∙ ap (λ ks. cast_kinds ks (map (stored_at params) cells)) is.kinds_are
      ∙ kept_cells kinds (Whole id ∷ rest) fits cells)

  alone : (olds news : List Row) → works old.now.schema Enforced 0 table.tree olds news ≡ []
  alone = subst (λ (t : ℕ). (olds news : List Row)
      → works old.now.schema Enforced 0 t olds news ≡ []) (sym is.target.tree_is) is.target.free

  abbrev edit_for : Option Row → List Row → Edit
  edit_for counter rows = edit_of db table [] (rowids_for table (count_of counter)) 0 rows

  abbrev terms : List Term
  terms = map cell_term (Some 0 ∷ cells)

  sources : (rows : List Row) → IsSource (record { schema = old.now.schema; trees = db }) (stamped table params) from rows → rows ≡ row ∷ []
  sources rows h =
      let some : zero < length (Some 0 ∷ cells) = omega arith in
      h.1 ∙ ap (λ ps. value_rows ps (length (Some 0 ∷ cells)) (length terms / length (Some 0 ∷ cells)) terms) stamped_is
      ∙ one_row params (Some 0 ∷ cells) (length (Some 0 ∷ cells)) some (length-map (Some 0 ∷ cells) cell_term)

  news : (counter : Option Row) (rows : List Row) → rows ≡ row ∷ [] → (edit_for counter rows).news ≡ row ∷ []
  news counter rows e =
      ap (λ (c : Bool). (edit_of db table [] (if c then Above (count_of counter) else Chosen) 0 rows).news) is.uncounted
      ∙ ap (λ (all : List Row). (edit_of db table [] Chosen 0 all).news) e
      ∙ ap (λ (c : Row). with_rowid Chosen (db table.tree) c ∷ []) casted

  pub inserts : (count : ℕ) → Executes text params old new (Ok count) → PutsIn old.now new.now tree row
  inserts count h =
      let w = runs_as text params old new old.now.schema refl (Insert is.place from) is.inserts.is is.inserts.plain count h in
      let done = went (subst (λ o. AtPlace (λ t. OnRows (record task {
        table =
            t;
      }) (mode_of old) None (Insert is.place from) db) o (Ok (w.tally, new.now))) is.target.at w.changed) in
      let now = ap (λ (p : Tally × Database). p.1) (same_value (went (went done.2).2).2) in
      let given = went done.1 in
      let rows_are = sources given.0 given.1 in
      let counter = went given.2 in
      let written = went counter.2 in
      let counted = went written.2 in
      let same_trees = off_both table.is_counted _ _ _ is.uncounted counted.1 in
      let trees : done.0.trees ≡ written.0 = ap (λ (it : Written). it.trees) (same_value counted.2) ∙ same_value same_trees in
      let edit : Edit = edit_for counter.0 given.0 in
      let applied : Applies old.now.schema Enforced db edit written.0 =
      one_step old.now.schema Enforced db written.0 edit (alone (taken_by db edit) edit.news) written.1 in
      let fresh = news counter.0 given.0 rows_are in
      let next : new.now.trees ≡ written.0 = ap (λ (d : Database). d.trees) now ∙ trees in
      let here : written.0 table.tree ≡ put_row row (db table.tree) = applied.rows ∙ ap (put_all (db table.tree)) fresh in
      let free : not (is_taken (db table.tree) row) ≡ true =
      both_true _ _ (subst (λ all. are_fresh (db table.tree) all ≡ true) fresh applied.fresh) in
      record {
        schema = ap (λ (d : Database). d.schema) now;
        free = not-true _ (subst (λ (t : ℕ). not (is_taken (db t) row) ≡ true) is.target.tree_is free);
        rows = ap (λ (t : Trees). t tree) next ∙ subst (λ (t : ℕ). written.0 t ≡ put_row row (db t)) is.target.tree_is here;
        others = others_kept old.now new.now table tree edit refl is.target.tree_is (subst (Applies old.now.schema Enforced db edit)
            (sym next) applied);
      }

  -- ---- the statement refused by the primary key

  abbrev IsThere : Type 0
  IsThere = is_taken (db tree) row ≡ true

  refused_here : (counter : Option Row) (rows : List Row) → rows ≡ row ∷ []
      → IsRefused old.now.schema Enforced db (edit_for counter rows) (Violates PrimaryKey) → IsThere
  refused_here counter rows e h =
      let one : (not (is_taken (db table.tree) row) && true) ≡ false =
      subst (λ (all : List Row). are_fresh (db table.tree) all ≡ false) (news counter rows e) h in
      subst (λ (t : ℕ). is_taken (db t) row ≡ true) is.target.tree_is (both_false _ one)

  edit_taken : (counter : Option Row) (rows : List Row) → rows ≡ row ∷ [] → (stop : Option Error) → stop ≡ Some taken
      → Edited old.now.schema Enforced db (edit_for counter rows) (Err stop) → IsThere
  edit_taken counter rows e stop at h =
      let why : h.0 ≡ Some (Violates PrimaryKey) = why_is h.0 (sym at ∙ h.2) in
      refused_here counter rows e
      (refused_edit old.now.schema db (edit_for counter rows) (Violates PrimaryKey) alone (subst (λ
      (w : Option Refusal). Writes old.now.schema Enforced db (edit_for counter rows) (Err w)) why h.1))

  no_source : (ps : Row) → RefusesSource old.step_limit (record { schema = old.now.schema; trees = db }) ps from taken → ⊥
  no_source ps (inl h) = let e = h.0 in cc
  no_source ps (inr h) = let e = h.0 in cc

  inserts_taken : (stop : Option Error) → stop ≡ Some taken → Inserts task from db (Err stop) → IsThere
  inserts_taken stop at (inl (s, given, e)) =
      absurd (no_source (stamped table params) (subst (λ (o : Option Error). Sourced old.step_limit (record {
        schema =
            old.now.schema;
        trees = db;
      }) (stamped table params) from (Err o)) (same_stop e ∙ at) given))
  inserts_taken stop at (inr (rows, given, inl (s, counter, e))) = absurd (let f = off table.is_counted _ _ is.uncounted counter in cc)
  inserts_taken stop at (inr (rows, given, inr (counter, c, inl (s, edited, e)))) =
      edit_taken counter rows (sources rows given) s (same_stop e ∙ at) edited
  inserts_taken stop at (inr (rows, given, inr (counter, c, inr (mid, m, inl (s, counts, e))))) = absurd (let f =
      off_both table.is_counted _ _ _ is.uncounted counts in cc)
  inserts_taken stop at (inr (rows, given, inr (counter, c, inr (mid, m, inr (next, n, e))))) = absurd (let f = e in cc)

  concludes_taken : (w : Written) → Concludes task (mode_of old) None w (Err (Some taken)) → ⊥
  concludes_taken w (inl (s, tested, e)) = let f = same_stop e in let h = tested.1 in cc
  concludes_taken w (inr (d, t, inl (s, shown, e))) = let f = shown in cc
  concludes_taken w (inr (d, t, inr (rs, r, e))) = let f = e in cc

  on_rows_taken : OnRows task (mode_of old) None (Insert is.place from) db (Err (Some taken)) → IsThere
  on_rows_taken (inl (s, rows, e)) = inserts_taken s (same_stop e) rows
  on_rows_taken (inr (w, rows, e)) = absurd (concludes_taken w e)

  does_taken : (stmt : List ℕ) → Does old.step_limit (mode_of old) params old.now stmt None (Insert is.place from) (Err (Some taken))
      → IsThere
  does_taken stmt h = on_rows_taken (subst (λ o. AtPlace (λ t. OnRows (record task {
    table =
        t;
  }) (mode_of old) None (Insert is.place from) db) o (Err (Some taken))) is.target.at h)

  command_taken : (c : Compiled) → c.command ≡ Insert is.place from → c.returning ≡ None → RunsCommand old new text c params (Err taken)
      → IsThere
  command_taken c k r (inl (inl misplaced, u)) = absurd (not_placed old c.command misplaced)
  command_taken c k r (inl (inr (may, does), u)) = does_taken (text_of text c) (rw (k, r) at does)
  command_taken c k r (inr fails) = absurd (no_store fails.0 fails.1)

  pub taken_by_key : Executes text params old new (Err taken) → IsThere
  unfolding ExecutesIn IsNotRun
  taken_by_key (inl (inl h)) = absurd (no_statement old text params h.0)
  taken_by_key (inl (inr h)) = absurd (no_store h.0 h.1)
  taken_by_key (inr h) =
      let c : Compiled = h.0 in
      let bare = subst IsPlain h.1.is is.inserts.plain in
      let ran : RunsCommand old new text c (timed params c.formats h.1.now) (Err taken) = elim (cases_Bool (shows_rows false c)) [
        | inl shows ↦ absurd (let e = (rw shows at h.2).0 in cc)
        | inr runs ↦ rw runs at h.2
      ] in
      command_taken c (ap command_of (sym h.1.is) ∙ is.inserts.is) bare.0
      (subst (λ (ps : Row). RunsCommand old new text c ps (Err taken)) (append-nil params) (rw bare.1 at ran))

  pub taken_inside : ExecutesInside 0 text params old new (Err taken) → IsThere
  taken_inside (inl h) = taken_by_key h.0
  taken_inside (inr h) = absurd (let e = h.1 in cc)

-- ---- for a row with its key

keyless : (a : Bool) → (a && false) ≡ true → ⊥
keyless true e = cc
keyless false e = cc

module _ (old new : State) (text : List ℕ) (tree : ℕ) (cells : List (Option ℕ)) (kinds : List ColType)
    (is : IsInsertInto old.now.schema text tree cells kinds) where
  pub row_in : (x : Tuple) → is_placed (types.Int ∷ kinds) x ≡ true → (count : ℕ) → Executes text (inserted_cells x) old new (Ok count)
      → PutsIn old.now new.now tree (stored_row cells (inserted_cells x))
  row_in [] placed count h = absurd cc
  row_in (NoValue ∷ rest) placed count h = absurd (keyless (row_fits (types.Int ∷ kinds) (NoValue ∷ rest)) placed)
  row_in (Whole id ∷ rest) placed count h =
      inserts old new id rest text tree cells kinds is (and_parts (row_fits (types.Int ∷ kinds) (Whole id ∷ rest)) true placed).0 count h
  row_in (Chars t ∷ rest) placed count h = absurd cc
  row_in (Logic b ∷ rest) placed count h = absurd cc

  pub row_taken : (x : Tuple) → is_placed (types.Int ∷ kinds) x ≡ true → ExecutesInside 0 text (inserted_cells x) old new (Err taken)
      → is_taken (old.now.trees tree) (stored_row cells (inserted_cells x)) ≡ true
  row_taken [] placed h = absurd cc
  row_taken (NoValue ∷ rest) placed h = absurd (keyless (row_fits (types.Int ∷ kinds) (NoValue ∷ rest)) placed)
  row_taken (Whole id ∷ rest) placed h =
      taken_inside old new id rest text tree cells kinds is (and_parts (row_fits (types.Int ∷ kinds) (Whole id ∷ rest)) true placed).0 h
  row_taken (Chars t ∷ rest) placed h = absurd cc
  row_taken (Logic b ∷ rest) placed h = absurd cc
