-- A page text gives the first rows of a key range, in key order, and changes nothing.
use Rattle.std.proofs.Common.{
  rules,
  Option,
  nat_le,
  unwrap_or,
  slice_get,
  ◌^◌,
  ◌-◌,
  Vec,
  None,
  Ok,
  Err,
  Result,
  IfOk,
  IfErr,
  OnOk,
  ◌≡◌,
  inl,
  inr,
  ℕ,
  ℤ,
  Bool,
  true,
  false,
  cond,
  ◌&&◌,
  List,
  [],
  ◌∷◌,
  ◌++◌,
  Some,
  map,
  filter,
  take,
  IsTrue,
  refl,
  sym,
  ap,
  subst,
  ◌∙◌,
  Less,
}
use Rattle.std.specs.Prelude.{if◌then◌else◌, flat_map}
use Rattle.std.specs.Ordering.{is_lt, is_ge, is_le, int_cmp}
use Rattle.std.specs.List.{AllByRecursion, list_all}
use Rattle.std.specs.List.Sorted.{IsPermutation, IsSortedBy}
use Rattle.std.proofs.lemmas.List.Sorted.{ranks_by}
use Rattle.sqlite.specs.declared.types.Value.{Value}
use Rattle.sqlite.specs.declared.types.Value.TheVariants.{Null, Int, Real, Text, Blob}
use Rattle.sqlite.specs.declared.error.Error.{Error}
use Rattle.sqlite.specs.declared.error.Error.TheVariants.{SqlInputError}
use Rattle.sqlite.specs.Order.{Row, column, value_cmp}
use Rattle.sqlite.specs.Tree.{rowid, IsTable}
use Rattle.sqlite.specs.View.{IsShaped, is_int}
use Rattle.sqlite_trees.specs.Tree.{Trees, IsAscending}
use Rattle.sqlite_trees.specs.declared.error.StoreError.{StoreError}
use Rattle.sqlite_trees.specs.declared.error.StoreError.TheVariants.{OutOfMemory, Io, Corrupt, Full, Broken, Unstorable}
use Rattle.sqlite_trees.specs.declared.store.Shape.TheVariants as shape
use Rattle.sqlite.specs.Edit.{id_in}
use Rattle.sqlite.specs.Ops.{is_true, binary, test, from_truth}
use Rattle.sqlite_sql.specs.Term.{Env, holds, col, eval, eval_all}
use Rattle.sqlite_sql.specs.declared.ops.CompareOp.{CompareOp}
use Rattle.sqlite_sql.specs.declared.ops.CompareOp.TheVariants.{Ge, Le}
use Rattle.sqlite_sql.specs.declared.ops.BinaryOp.TheVariants.{Compare}
use Rattle.sqlite_value.specs.declared.keys.Collation.TheVariants.{Binary}
use Rattle.sqlite_value.proofs.OrderLemmas.{value_cmp-Int, value_cmp_total, then-Equal}
use Rattle.sqlite_catalog.proofs.LayoutLemmas.{ascending_filter}
use Rattle.std.proofs.lemmas.Simd.{map-map}
use Rattle.sqlite.specs.Query.{IsAnswer, Output, output, page}
use Rattle.sqlite.specs.Program.{overlay}
use Rattle.sqlite.specs.Command.{Command}
use Rattle.sqlite.specs.Command.TheVariants.{Select, Rows}
use Rattle.sqlite.specs.Clock.{timed}
use Rattle.sqlite.specs.Effect.{Database, RefusesToRead}
use Rattle.sqlite.specs.State.{
  State,
  Shown,
  ShowsRows,
  IsUnchanged,
  IsRolledBack,
  IsNotRun,
  IsNoStatement,
  FailsToShow,
  FailsToQuery,
  store_error,
}
use Rattle.sqlite_schema.specs.declared.command.Returning.{Returning}
use Rattle.sqlite_resolve.specs.declared.compiled.Compiled.{Compiled}
use Rattle.sqlite_resolve.specs.declared.error.CompileError.{CompileError}
use Rattle.sqlite.specs.Listing.{understood}
use Rattle.sqlite.proofs.Callers.{reads_as, IsPlain}
use Rattle.sqlite_looks.specs.Pages.{IsPageText, page_filter, page_query, in_range, paged, range_of}
use Rattle.sqlite_looks.proofs.Unique.{only_sorted}

truth_back : (b : Bool) → is_true (from_truth (Some b)) ≡ b
truth_back true = refl
truth_back false = refl

pub compare_is : (op : CompareOp) (n m : ℤ) → is_true (binary (Compare op Binary) (Int n) (Int m)) ≡ test op (int_cmp n m)
unfolding binary
compare_is op n m = rw (value_cmp-Int n m) (truth_back (test op (int_cmp n m)))

both_and : (a b : Bool) → (a && (b && true)) ≡ (a && b)
both_and true true = refl
both_and true false = refl
both_and false b = refl

at_key : (low high : ℤ) (v : Value) → IsTrue (is_int v)
    → (is_true (binary (Compare Ge Binary) v (Int low)) && (is_true (binary (Compare Le Binary) v (Int high)) && true)) ≡
    (is_ge (int_cmp (id_in v) low) && is_le (int_cmp (id_in v) high))
at_key low high (Int n) h = rw (compare_is Ge n low, compare_is Le n high) (both_and _ _)
at_key low high Null h = absurd (cc)
at_key low high (Real x) h = absurd (cc)
at_key low high (Text t) h = absurd (cc)
at_key low high (Blob b) h = absurd (cc)

module _ (low high : ℤ) where
  abbrev params : Row
  params = Int low ∷ Int high ∷ []

  abbrev env : Row → Env
  env r = params ∷ r ∷ []

  where_is : (r : Row) → IsTrue (is_int (rowid r)) → list_all (holds (env r)) page_filter ≡ in_range low high r
  where_is r h = at_key low high (rowid r) h

  met : (rows : List Row) → AllByRecursion (λ r. IsTrue (is_int (rowid r))) rows
      → flat_map (λ r. if list_all (holds (env r)) page_filter then env r ∷ [] else []) rows ≡ map env (filter (in_range low high) rows)
  met [] h = refl
  met (r ∷ rows) h = rw (where_is r h.0, met rows h.1)
      (elim (in_range low high r) as (λ b. ◌≡◌ {A = List Env} (cond b (env r ∷ []) [] ++ map env (filter (in_range low high) rows))
      (map env (cond b (r ∷ filter (in_range low high) rows) (filter (in_range low high) rows)))) [ true ↦ refl | false ↦ refl ])

abbrev out : List ℕ → Row → Output
out places r = (column r 0 ∷ [], paged places r)

abbrev below : Output → Output → Bool
below a b = is_lt (value_cmp (column a.0 0) (column b.0 0))

all_map : {A B : Type 0} (P : B → Type 0) (Q : A → Type 0) (f : A → B) → ((a : A) → Q a → P (f a)) → (xs : List A) → AllByRecursion Q xs
    → AllByRecursion P (map f xs)
all_map P Q f g [] h = tt
all_map P Q f g (x ∷ xs) h = (g x h.0, all_map P Q f g xs h.1)

rises : (places : List ℕ) (rows : List Row) → IsTable rows → IsAscending (λ a b. below a b ≡ true) (map (out places) rows)
rises places [] up = tt
rises places (r ∷ rows) up = (
  all_map (λ b. below (out places r) b ≡ true) (λ b. value_cmp (rowid r) (rowid b) ≡ Less) (out places)
      (λ b e. ap is_lt e) rows up.0,
  rises places rows up.1,
)

-- what a page shows of a row, computed as its query computes it
shown_is : (env : Env) (places : List ℕ) → eval_all (map (col 1) places) env ≡ map (λ at. eval (col 1 at) env) places
shown_is env places = map-map (λ t. eval t env) (col 1) places

outputs_are : (tree size : ℕ) (places : List ℕ) (low high : ℤ) (rows : List Row)
    → map (output (page_query tree places size)) (map (env low high) rows) ≡ map (out places) rows
outputs_are tree size places low high [] = refl
outputs_are tree size places low high (r ∷ rows) =
    ap (λ shown. (column r 0 ∷ [], shown) ∷ map (output (page_query tree places size)) (map (env low high) rows))
    (shown_is (env low high r) places)
    ∙ ap (λ more. out places r ∷ more) (outputs_are tree size places low high rows)

overlay_none : (db : Trees) (t : ℕ) → overlay db [] t ≡ db t
overlay_none db t = elim (nat_le (2 ^ 31) t) as
    (λ b. unwrap_or (if b then slice_get [] (t - 2 ^ 31) else None) (db t) ≡ db t) [ true ↦ search rules | false ↦ refl ]

module _ (text : List ℕ) (tree : ℕ) (places : List ℕ) (size : ℕ) (low high : ℤ) (old new : State)
    (is : IsPageText old.now.schema text tree places size) where
  pub pages : (rows : List Row) → IsShaped shape.Table (old.now.trees tree) → Shown text (Int low ∷ Int high ∷ []) old new rows
      → rows ≡ take size (range_of places low high (old.now.trees tree))
  pages rows shaped h =
      let r = reads_as text (Int low ∷ Int high ∷ []) old new old.now.schema refl _ is.is is.plain is.unlisted rows h in
      let a : IsAnswer (page_query tree places size) (overlay old.now.trees []) (Int low ∷ Int high ∷ []) rows = r.answer Null in
      let kept_rows = filter (in_range low high) (old.now.trees tree) in
      let staged = a.grouped ∙ ap (flat_map (λ r. if list_all (holds (env low high r)) page_filter then env low high r ∷ [] else []))
      (overlay_none old.now.trees tree) ∙ met low high (old.now.trees tree) shaped.1 in
      let kept : a.kept ≡ map (out places) kept_rows = a.distinct ∙ ap (map (output (page_query tree places size))) staged
      ∙ outputs_are tree size places low high kept_rows in
      let sorted : IsSortedBy below a.ordered = λ k d from within. rw (then-Equal) at (a.sorted k d from within) in
      let up = rises places kept_rows (ascending_filter _ (in_range low high) (old.now.trees tree) shaped.0) in
      let same = only_sorted below (ranks_by value_cmp_total (λ (o : Output). column o.0 0))
      (map (out places) kept_rows) a.ordered up sorted (subst (λ k. IsPermutation k a.ordered) kept a.same) in
      a.shown ∙ ap (λ os. page (page_query tree places size) (Int low ∷ Int high ∷ []) (map (λ (o : Output). o.1) os)) same
      ∙ ap (take size) (map-map (λ (o : Output). o.1) (out places) kept_rows)

  pub pages_if : {A E : Type 0} (r : Result (Vec Row A) E) → IsShaped shape.Table (old.now.trees tree)
      → IfOk r (λ v. Shown text (Int low ∷ Int high ∷ []) old new v.items)
      → IfOk r (λ v. v.items ≡ take size (range_of places low high (old.now.trees tree)))
  pages_if (Ok v) shaped h = pages v.items shaped h
  pages_if (Err e) shaped h = tt

  not_returning : (r : Result Compiled CompileError) (c : Compiled) → IsPlain r → r ≡ Ok c → c.returning ≡ None
  not_returning r c plain e = (subst IsPlain e plain).0

  shown_same : (rows : List Row) → Shown text (Int low ∷ Int high ∷ []) old new rows → IsUnchanged old new
  unfolding Shown
  shown_same rows h =
      let it = rw (not_returning _ _ is.plain h.1.is) at h.2 in
      it.3

  -- an idle connection that fails shows what it showed
  rolled : old.now ≡ old.committed → IsTrue new.is_open → IsRolledBack old new → new.now ≡ old.now
  rolled idle up h = (h.undone up).0 ∙ sym idle

  failed_same : (e : Error) → (IsTrue old.is_open → old.now ≡ old.committed) → IsTrue new.is_open
      → FailsToQuery text (Int low ∷ Int high ∷ []) old new e → new.now ≡ old.now
  unfolding FailsToQuery IsNotRun
  failed_same e idle up (inl (inl h)) = h.1.0.now_is
  failed_same e idle up (inl (inr h)) = rolled (idle (h.3.was_open up)) up h.3
  failed_same e idle up (inr h) =
      let it = rw (not_returning _ _ is.plain h.1.is) at h.2 in
      it.3.0.now_is

  pub same_if : {A : Type 0} (r : Result (Vec Row A) Error) → (IsTrue old.is_open → old.now ≡ old.committed) → IsTrue new.is_open
      → IfOk r (λ v. Shown text (Int low ∷ Int high ∷ []) old new v.items)
      → IfErr r (λ e. FailsToQuery text (Int low ∷ Int high ∷ []) old new e) → new.now ≡ old.now
  same_if (Ok v) idle up h k = (shown_same v.items h).0.now_is
  same_if (Err e) idle up h k = failed_same e idle up k

  no_store : (fault : CompileError) (cause : StoreError) → SqlInputError fault ≡ store_error cause → ⊥
  no_store fault OutOfMemory e = cc
  no_store fault Io e = cc
  no_store fault Corrupt e = cc
  no_store fault Full e = cc
  no_store fault Broken e = cc
  no_store fault Unstorable e = cc

  not_error : (r : Result Compiled CompileError) (fault : CompileError) → IsPlain r → r ≡ Err fault → ⊥
  not_error r fault plain e = subst IsPlain e plain

  no_refusal : (limit : Option ℕ) (db : Database) (given : Row) (fault : CompileError) (command : Command)
      → RefusesToRead limit command db given (SqlInputError fault) → ⊥
  no_refusal limit db given fault (Select q names) (inl h) = let e = h.0 in cc
  no_refusal limit db given fault (Select q names) (inr (inl h)) = let e = h.0 in cc
  no_refusal limit db given fault (Select q names) (inr (inr h)) = let e = h.0 in cc
  no_refusal limit db given fault (Rows values width names) h = let e = h.0 in cc
  no_refusal limit db given fault _ h = cc

  no_statement : (fault : CompileError) → IsNoStatement old text (Int low ∷ Int high ∷ []) (SqlInputError fault) → ⊥
  no_statement fault (inl h) = not_error _ h.0 is.plain h.1
  no_statement fault (inr (c, known, inl h)) = let e = h.1 in cc
  no_statement fault (inr (c, known, inr (inl h))) = let e = h.1 in cc
  no_statement fault (inr (c, known, inr (inr h))) = let e = h.1 in cc

  understands : (fault : CompileError) → FailsToQuery text (Int low ∷ Int high ∷ []) old new (SqlInputError fault) → ⊥
  unfolding FailsToQuery IsNotRun
  understands fault (inl (inl h)) = no_statement fault h.0
  understands fault (inl (inr h)) = no_store fault h.0 h.1
  understands fault (inr h) =
      let it = rw (not_returning _ _ is.plain h.1.is) at h.2 in
      no_refusal old.step_limit it.0 (timed (Int low ∷ Int high ∷ []) h.0.formats h.1.now) fault h.0.command it.2

  pub understood_if : {A : Type 0} (r : Result A Error) → IfErr r (λ e. FailsToQuery text (Int low ∷ Int high ∷ []) old new e)
      → IfErr r (λ e. (fault : CompileError) → e ≡ SqlInputError fault → ⊥)
  understood_if (Ok x) h = tt
  understood_if (Err e) h = λ fault same. understands fault (subst (λ x. FailsToQuery text (Int low ∷ Int high ∷ []) old new x) same h)

-- a text that is not understood gives no page, and changes nothing
module _ (text : List ℕ) (low high : ℤ) (old new : State) (fault : CompileError) (bad : understood old.now.schema text ≡ Err fault) where
  clash : (c : Compiled) → understood old.now.schema text ≡ Ok c → ⊥
  clash c e = let f = sym bad ∙ e in cc

  no_page : (rows : List Row) → Shown text (Int low ∷ Int high ∷ []) old new rows → ⊥
  unfolding Shown
  no_page rows h = clash h.0 h.1.is

  stays : (e : Error) → (IsTrue old.is_open → old.now ≡ old.committed) → IsTrue new.is_open
      → FailsToQuery text (Int low ∷ Int high ∷ []) old new e → new.now ≡ old.now
  unfolding FailsToQuery IsNotRun
  stays e idle up (inl (inl h)) = h.1.0.now_is
  stays e idle up (inl (inr h)) = (h.3.undone up).0 ∙ sym (idle (h.3.was_open up))
  stays e idle up (inr h) = absurd (clash h.0 h.1.is)

  pub unread : {A : Type 0} (r : Result (Vec Row A) Error) → (IsTrue old.is_open → old.now ≡ old.committed) → IsTrue new.is_open
      → IfOk r (λ v. Shown text (Int low ∷ Int high ∷ []) old new v.items)
      → IfErr r (λ e. FailsToQuery text (Int low ∷ Int high ∷ []) old new e) → (new.now ≡ old.now) × OnOk r ⊥
  unread (Ok v) idle up h k = absurd (no_page v.items h)
  unread (Err e) idle up h k = (stays e idle up k, tt)

-- a connection that is open after a query was open before it
module _ (sql : List ℕ) (params : Row) (old new : State) where
  failed_to_run : (what : Option Returning) (e : Error) (c : Compiled) (given : Row) → IsTrue new.is_open
      → FailsToShow old new sql c given e what → IsTrue old.is_open
  failed_to_run None e c given up h = h.3.0.was_open
  failed_to_run (Some what) e c given up (inl h) = h.1.0.was_open
  failed_to_run (Some what) e c given up (inr h) = h.3.was_open up

  shown_open : (what : Option Returning) (c : Compiled) (given : Row) (rows : List Row) → ShowsRows old new sql c given rows what
      → IsTrue old.is_open
  shown_open None c given rows h = h.3.0.was_open
  shown_open (Some what) c given rows h = h.1.shown.was_open

  pub was_open : {A : Type 0} (r : Result (Vec Row A) Error) → IsTrue new.is_open → IfOk r (λ v. Shown sql params old new v.items)
      → IfErr r (λ e. FailsToQuery sql params old new e)
      → IsTrue old.is_open
  unfolding Shown FailsToQuery IsNotRun
  was_open (Ok v) up h k = shown_open h.0.returning h.0 _ v.items h.2
  was_open (Err e) up h (inl (inl k)) = k.1.0.was_open
  was_open (Err e) up h (inl (inr k)) = k.3.was_open up
  was_open (Err e) up h (inr k) = failed_to_run k.0.returning e k.0 _ up k.2
