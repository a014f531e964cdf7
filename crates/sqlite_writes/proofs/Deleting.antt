-- A delete text takes the row of its key out, and no other.
use Rattle.std.proofs.Common.{◌≡◌, ℕ, suc, ◌-◌, ◌^◌, ℤ, Bool, true, false, not, cond, ◌&&◌, List, [], ◌∷◌, ◌++◌, map, filter, length}
use Rattle.std.proofs.Common.{None, Ok, IsTrue, refl, sym, ap, subst, ◌∙◌, arith, rules, nat_le, unwrap_or, slice_get}
use Rattle.std.specs.Prelude.{if◌then◌else◌, flat_map}
use Rattle.std.specs.declared.cmp.Ordering.{Ordering}
use Rattle.std.specs.declared.cmp.Ordering.TheVariants.{Less, Equal, Greater}
use Rattle.std.specs.Ordering.{is_eq, int_cmp, MatchOrdering}
use Rattle.std.specs.Cmp.{int_ranks}
use Rattle.std.specs.List.{AllByRecursion, list_all}
use Rattle.std.specs.List.Sorted.{IsPermutation}
use Rattle.std.proofs.lemmas.List.Sorted.{length_permutation}
use Rattle.std.proofs.lemmas.List.Filters.{length-filter_both}
use Rattle.std.proofs.lemmas.Simd.{map-map}
use Rattle.sqlite.specs.declared.types.Value.{Value}
use Rattle.sqlite.specs.declared.types.Value.TheVariants.{Null, Int, Real, Text, Blob}
use Rattle.sqlite.specs.Order.{Row, column, value_cmp}
use Rattle.sqlite_sql.specs.Term.{Env, holds}
use Rattle.sqlite.specs.Ops.{is_true, binary}
use Rattle.sqlite.specs.Query.{IsAnswer, Output, output}
use Rattle.sqlite.specs.Program.{overlay}
use Rattle.sqlite.specs.Tree.{Trees, rowid, has_rowid, without_rowid}
use Rattle.sqlite.specs.View.{IsShaped, is_int}
use Rattle.sqlite_trees.specs.declared.store.Shape.TheVariants as shape
use Rattle.sqlite_trees.proofs.ListLemmas.{filter-filter, all-permutation}
use Rattle.sqlite.specs.Edit.{Edit, edit_of, id_in, without_all}
use Rattle.sqlite.specs.Rows.{Written}
use Rattle.sqlite.specs.Does.{Tally, AtPlace, OnRows}
use Rattle.sqlite.specs.Effect.{Database}
use Rattle.sqlite.specs.Rowids.TheVariants.{Given}
use Rattle.sqlite_rules.specs.Calls.{ids_of}
use Rattle.sqlite_rules.specs.Edit.{Applies, taken_by}
use Rattle.sqlite_rules.specs.Action.{works}
use Rattle.sqlite.specs.Command.TheVariants.{Delete}
use Rattle.sqlite_schema.specs.declared.program.Program.{Program}
use Rattle.sqlite_schema.specs.declared.schema.Keys.TheVariants.{Enforced}
use Rattle.sqlite.specs.State.{State, mode_of, Executes}
use Rattle.sqlite.proofs.Callers.{runs_as, one_step}
use Rattle.sqlite_sql.specs.declared.ops.CompareOp.TheVariants.{Eq}
use Rattle.sqlite_sql.specs.declared.ops.BinaryOp.TheVariants.{Compare}
use Rattle.sqlite_value.specs.declared.keys.Collation.TheVariants.{Binary}
use Rattle.sqlite_value.proofs.OrderLemmas.{value_cmp-Int}
use Rattle.sqlite_looks.proofs.Unique.{kept_all}
use Rattle.sqlite_looks.proofs.PageLemmas.{compare_is}
use Rattle.sqlite_looks.specs.Changes.{delete_filter, delete_query}
use Rattle.sqlite_tables.specs.Texts.{IsDeleteFrom}
use Rattle.sqlite_writes.specs.Changes.{TakesOut}
use Rattle.sqlite_writes.proofs.Steps.{went, same_value, others_kept}

equal_in : (o : Ordering) (P Q R : Type 0) → MatchOrdering o P Q R → is_eq o ≡ true → Q
equal_in Less P Q R m e = absurd (cc)
equal_in Equal P Q R m e = m
equal_in Greater P Q R m e = absurd (cc)

and_true : (b : Bool) → (b && true) ≡ b
and_true true = refl
and_true false = refl

-- WHERE id = ?1 at a row with an integer key is the key's test
at_key : (id : ℤ) (v : Value) → IsTrue (is_int v) → (is_true (binary (Compare Eq Binary) v (Int id)) && true) ≡ is_eq (value_cmp v (Int id))
at_key id (Int n) h = rw (compare_is Eq n id, value_cmp-Int n id) (and_true _)
at_key id Null h = absurd (cc)
at_key id (Real x) h = absurd (cc)
at_key id (Text t) h = absurd (cc)
at_key id (Blob b) h = absurd (cc)

pub key_is : (id : ℤ) (v : Value) → IsTrue (is_int v) → is_eq (value_cmp v (Int id)) ≡ true → id_in v ≡ id
key_is id (Int n) h e = equal_in (int_cmp n id) _ _ _ (int_ranks n id) (rw (value_cmp-Int n id) at e)
key_is id Null h e = absurd (cc)
key_is id (Real x) h e = absurd (cc)
key_is id (Text t) h e = absurd (cc)
key_is id (Blob b) h e = absurd (cc)

module _ (id : ℤ) where
  abbrev env : Row → Env
  env r = (Int id ∷ []) ∷ r ∷ []

  abbrev out : Row → Output
  out r = ([], column r 0 ∷ [])

  met : (rows : List Row) → AllByRecursion (λ r. IsTrue (is_int (rowid r))) rows
      → flat_map (λ r. if list_all (holds (env r)) delete_filter then env r ∷ [] else []) rows ≡ map env (filter (has_rowid id) rows)
  met [] h = refl
  met (r ∷ rows) h = rw (at_key id (rowid r) h.0, met rows h.1) (elim (has_rowid id r) as (λ b. ◌≡◌ {A =
      List Env} (cond b (env r ∷ []) [] ++ map env (filter (has_rowid id) rows)) (map env (cond b (r ∷ filter (has_rowid id) rows)
      (filter (has_rowid id) rows)))) [ true ↦ refl | false ↦ refl ])

  abbrev Named : Output → Type 0
  Named o = id_in (rowid o.1) ≡ id

  named : (rows : List Row) → AllByRecursion (λ r. IsTrue (is_int (rowid r))) rows
      → AllByRecursion Named (map out (filter (has_rowid id) rows))
  named [] h = tt
  named (r ∷ rows) h = go (named rows h.1) (has_rowid id r) refl
    where
      go : AllByRecursion Named (map out (filter (has_rowid id) rows)) → (b : Bool) → has_rowid id r ≡ b
          → AllByRecursion Named (map out (cond b (r ∷ filter (has_rowid id) rows) (filter (has_rowid id) rows)))
      go more true e = (key_is id (rowid r) h.0 e, more)
      go more false e = more

  all_ids : (os : List Output) → AllByRecursion Named os → AllByRecursion (λ x. x ≡ id) (ids_of (map (λ (o : Output). o.1) os))
  all_ids [] h = tt
  all_ids (o ∷ os) h = (h.0, all_ids os h.1)

  again : (xs : List Row) (ids : List ℤ) → AllByRecursion (λ x. x ≡ id) ids → without_all (without_rowid id xs) ids ≡ without_rowid id xs
  again xs [] h = refl
  again xs (i ∷ ids) h = rw (h.0, filter-filter (λ r. not (has_rowid id r)) (λ r. not (has_rowid id r)) (λ r e. e) xs) (again xs ids h.1)

  -- rowids that are all the same, one where the row is there
  taken_out : (xs : List Row) (ids : List ℤ) → AllByRecursion (λ x. x ≡ id) ids → length ids ≡ length (filter (has_rowid id) xs)
      → without_all xs ids ≡ without_rowid id xs
  taken_out xs [] h n =
      let both = length-filter_both (has_rowid id) (λ r. not (has_rowid id r)) (λ r. refl) xs in
      sym (kept_all (λ r. not (has_rowid id r)) xs (omega arith))
  taken_out xs (i ∷ ids) h n = rw h.0 (again xs ids h.1)

  len_map : {A B : Type 0} (f : A → B) (xs : List A) → length (map f xs) ≡ length xs
  len_map f [] = refl
  len_map f (x ∷ xs) = ap suc (len_map f xs)

overlay_none : (db : Trees) (t : ℕ) → overlay db [] t ≡ db t
overlay_none db t = elim (nat_le (2 ^ 31) t) as (λ b. unwrap_or (if b then slice_get [] (t - 2 ^ 31) else None)
    (db t) ≡ db t) [ true ↦ search rules | false ↦ refl ]

pub deletes : (old new : State) (id : ℤ) (text : List ℕ) (tree : ℕ) (is : IsDeleteFrom old.now.schema text tree) (count : ℕ)
    → IsShaped shape.Table (old.now.trees tree)
    → Executes text (Int id ∷ []) old new (Ok count) → TakesOut old.now new.now tree id
deletes old new id text tree is count shaped h =
    let params = Int id ∷ [] in
    let db = old.now.trees in
    let schema = old.now.schema in
    let table = is.target.table in
    let program : Program = record { lets = []; body = delete_query tree } in
    let command = Delete is.place program in
    let w = runs_as text params old new schema refl command is.deletes.is is.deletes.plain count h in
    let done = went (subst (λ o. AtPlace (λ t. OnRows (record {
      limit = old.step_limit;
      keys = Enforced;
      schema = schema;
      table =
          t;
      params = params;
    }) (mode_of old) None command db) o (Ok (w.tally, new.now))) is.target.at w.changed) in
    let now = ap (λ (p : Tally × Database). p.1) (same_value (went (went done.2).2).2) in
    let queried = went done.1 in
    let rows = queried.0 in
    let edit : Edit = edit_of db table (ids_of rows) Given 0 [] in
    let written = went queried.2 in
    let trees : done.0.trees ≡ written.0 = ap (λ (it : Written). it.trees) (same_value written.2) in
    let alone = subst (λ (t : ℕ). (olds news : List Row)
    → works schema Enforced 0 t olds news ≡ []) (sym is.target.tree_is) is.target.free in
    let applied : Applies schema Enforced db edit written.0 =
    one_step schema Enforced db written.0 edit (alone (taken_by db edit) edit.news) written.1 in
    let a : IsAnswer (delete_query tree) (overlay db []) params rows = queried.1.answer Null in
    let kept_rows = filter (has_rowid id) (db tree) in
    let staged = a.grouped ∙ ap (flat_map (λ r. if list_all (holds (env id r)) delete_filter then env id r ∷ [] else []))
    (overlay_none db tree) ∙ met id (db tree) shaped.1 in
    let kept : a.kept ≡ map (out id) kept_rows = a.distinct ∙ ap (map (output (delete_query tree))) staged
    ∙ map-map (output (delete_query tree)) (env id) kept_rows in
    let moved = subst (λ k. IsPermutation k a.ordered) kept a.same in
    let all = all_ids id a.ordered (all-permutation (Named id) _ _ moved (named id (db tree) shaped.1)) in
    let shown : rows ≡ map (λ (o : Output). o.1) a.ordered = a.shown in
    let n : length (ids_of rows) ≡ length kept_rows = ap (λ rs. length (ids_of rs)) shown
    ∙ len_map id _ (map (λ (o : Output). o.1) a.ordered) ∙ len_map id _ a.ordered ∙ length_permutation _ _ moved
    ∙ len_map id (out id) kept_rows in
    let out_of = taken_out id (db tree) (ids_of rows) (subst (λ rs. AllByRecursion (λ x. x ≡ id) (ids_of rs)) (sym shown) all) n in
    let next : new.now.trees ≡ written.0 = ap (λ (d : Database). d.trees) now ∙ trees in
    let here : written.0 tree ≡ without_all (db tree) (ids_of rows) =
    subst (λ (t : ℕ). written.0 t ≡ without_all (db t) (ids_of rows)) is.target.tree_is applied.rows in
    record {
      schema = ap (λ (d : Database). d.schema) now;
      rows = ap (λ (t : Trees). t tree) next ∙ here ∙ out_of;
      others = others_kept old.now new.now table tree edit refl is.target.tree_is (subst (Applies schema Enforced db edit)
          (sym next) applied);
    }
