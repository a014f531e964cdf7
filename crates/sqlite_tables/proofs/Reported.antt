-- What a failure to read a table says of the errors that were reported, and of the table.
use Rattle.std.proofs.Common.{◌≡◌, ◌≢◌, ◌⊎◌, inl, inr, ℕ, ℤ, zero, suc, Bool, true, false, ◌&&◌, List, [], ◌∷◌, map, filter, take, IsTrue}
use Rattle.std.proofs.Common.{Result, Ok, Err, IfErr, Contains, refl, ap, sym, ◌∙◌, subst, arith}
use Rattle.std.proofs.lemmas.List.{length-map}
use Rattle.std.specs.List.{AllByRecursion, list_all}
use Rattle.sqlite.specs.declared.types.Value.{Value}
use Rattle.sqlite.specs.declared.types.Value.TheVariants.{Null, Int, Real, Text, Blob}
use Rattle.sqlite.specs.Held.{Held, state}
use Rattle.sqlite.specs.Order.{Row as SqlRow}
use Rattle.sqlite.specs.State.{State}
use Rattle.sqlite.specs.Tree.{rowid}
use Rattle.sqlite.specs.View.{IsShaped, is_int}
use Rattle.sqlite_trees.specs.declared.store.Shape.TheVariants as shape
use Rattle.sqlite_trees.specs.declared.store.Store.{Ghosts}
use Rattle.sqlite_trees.proofs.ListLemmas.{all-filter}
use Rattle.sqlite_looks.specs.Pages.{in_range, paged, range_of}
use Rattle.med_value.specs.declared.cause.Cause.{Cause}
use Rattle.med_value.specs.declared.cause.Cause.TheVariants.{InvalidText, TooLarge}
use Rattle.fdw_api.specs.declared.interface.Fault.{Fault}
use Rattle.fdw_api.specs.declared.interface.Fault.TheVariants.{NoMemory, Source, Refused}
use Rattle.sqlite_tables.specs.declared.cells.Misread.{Misread}
use Rattle.sqlite_tables.specs.declared.cells.Misread.TheVariants as misread
use Rattle.sqlite_tables.specs.Layouts.{Layout, places}
use Rattle.sqlite_tables.specs.Cells.{are_below, is_int as has_number, is_paged, is_row}
use Rattle.sqlite_tables.specs.Refusing.{OnlyBy}
use Rattle.sqlite_tables.specs.Reporting.{FailsToCount, FailsToRead, IsReportedPage, IsSourceFor}
use Rattle.sqlite_tables.specs.Surveys.{causes_in}
use Rattle.sqlite_tables.specs.Tables.{IsSure, ReadsOnly, entries_of}
use Rattle.sqlite_tables.proofs.Settled.{sure_then}

-- an error that is reported where the disk is clean
pub reported_if : {A E : Type 0} (r : Result A E) (P : Type 0) (Q : E → Type 0) → (P → IfErr r Q) → IfErr r (λ e. P → Q e)
reported_if (Ok x) P Q h = tt
reported_if (Err e) P Q h = h

-- ---- rows of a page

number_in : (v : Value) → IsTrue (is_int v) → has_number v ≡ true
number_in (Int n) h = refl
number_in Null h = absurd (cc)
number_in (Real x) h = absurd (cc)
number_in (Text t) h = absurd (cc)
number_in (Blob b) h = absurd (cc)

both_are : (a b : Bool) → a ≡ true → b ≡ true → (a && b) ≡ true
both_are a b d e = rw (d, e) refl

module _ (l : Layout) (all : is_paged l ≡ true) where
  row_is : (r : SqlRow) → IsTrue (is_int (rowid r)) → is_row l (paged (places l) r) ≡ true
  row_is r h =
      both_are _ _ (number_in (rowid r) h)
      (ap (λ (n : ℕ). are_below n l.columns) (length-map (places l) (λ (at : ℕ). Rattle.sqlite.specs.Order.column r at)) ∙ all)

  rows_are : (es : List SqlRow) → AllByRecursion (λ r. IsTrue (is_int (rowid r))) es
      → list_all (is_row l) (map (paged (places l)) es) ≡ true
  rows_are [] h = refl
  rows_are (r ∷ es) h = both_are _ _ (row_is r h.0) (rows_are es h.1)

  first_and : (b c d : Bool) → (c ≡ true → d ≡ true) → (b && c) ≡ true → (b && d) ≡ true
  first_and true c d up e = up e
  first_and false c d up e = absurd (cc)

  first_are : (n : ℕ) (rows : List SqlRow) → list_all (is_row l) rows ≡ true → list_all (is_row l) (take n rows) ≡ true
  first_are zero rows h = refl
  first_are (suc n) [] h = refl
  first_are (suc n) (r ∷ rows) h =
      first_and (is_row l r) (list_all (is_row l) rows) (list_all (is_row l) (take n rows)) (λ more. first_are n rows more) h

  page_is : (low high : ℤ) (es : List SqlRow) → IsShaped shape.Table es
      → list_all (is_row l) (take 64 (range_of (places l) low high es)) ≡ true
  page_is low high es shaped =
      first_are 64 (range_of (places l) low high es)
      (rows_are (filter (in_range low high) es) (all-filter (λ r. IsTrue (is_int (rowid r))) (in_range low high) es shaped.1))

-- a page of a table has a row that is none only where the page does not show each column
pub not_paged : (l : Layout) (low high : ℤ) (es page : List SqlRow) → IsShaped shape.Table es
    → page ≡ take 64 (range_of (places l) low high es)
    → list_all (is_row l) page ≡ false → is_paged l ≡ false
not_paged l low high es page shaped same e = go (is_paged l) refl
  where
    go : (b : Bool) → is_paged l ≡ b → is_paged l ≡ false
    go false is = is
    go true is = absurd (let f = sym e ∙ ap (list_all (is_row l)) same ∙ page_is l is low high es shaped in cc)

-- ---- what a fault says

-- a fault of a row that could not be read
pub content_reported : (first : Fault → Type 0) (honest : Bool) (l : Layout) (old new : State) (Reason : Type 0) (m : Misread)
    (f : Fault) → m ≢ misread.NoMemory
    → (m ≢ misread.NoMemory → f ≢ NoMemory) → (f ≡ Source → m ≡ misread.NoRow) → OnlyBy (λ c. (c ≡ InvalidText) × (m ≡ misread.Stray)) f
    → (m ≡ misread.NoRow → (honest ≡ true → Reason) × (IsSure old new l → Reason))
    → first f ⊎ (f ≡ Refused InvalidText) ⊎ IsSourceFor honest l old new Reason f
content_reported first honest l old new Reason m NoMemory other memory source by why = absurd (memory other refl)
content_reported first honest l old new Reason m Source other memory source by why = let w = why (source refl) in inr
    (inr (refl, w.0, w.1))
content_reported first honest l old new Reason m (Refused c) other memory source by why = inr (inl (ap Refused by.0))

module _ {S : Type 0} (g : Ghosts S) (honest : Bool) (l : Layout) (old : State) (mid : Held S) (new : State) where
  -- a page that is not read, after pages that were
  pub page_reported : (low high : ℤ) (Reason : Type 0) (f : Fault) → ReadsOnly old (state g mid) l
      → IsReportedPage l low high (state g mid) new f ⊎ (f ≡ Refused InvalidText) ⊎ IsSourceFor honest l (state g mid) new Reason f
      → ReadsOnly (state g mid) new l
      → FailsToRead g l old new f ⊎ (f ≡ Refused InvalidText) ⊎ (f ≡ Refused TooLarge) ⊎ IsSourceFor honest l old new Reason f
  page_reported low high Reason f before (inl h) next = inl (mid, low, high, before, h)
  page_reported low high Reason f before (inr (inl h)) next = inr (inl h)
  page_reported low high Reason f before (inr (inr h)) next = inr (inr (inr (h.0, h.1, λ sure. h.2 (sure_then before next sure))))

-- a table that is not read whole, which is out of memory or the source to its caller
abbrev pub ReadsNot : {S : Type 0} → Ghosts S → Bool → Layout → State → State → Fault → Type 0
ReadsNot g honest l old new f =
    FailsToRead g l old new f ⊎ (f ≡ Refused InvalidText) ⊎ (f ≡ Refused TooLarge) ⊎ IsSourceFor honest l old new (is_paged l ≡ false) f

has_none : (cs : List Cause) (c : Cause) → Contains cs c → cs ≢ []
has_none [] c (k, lt, is) none = omega (arith, lt)
has_none (d ∷ cs) c h none = cc

module _ {S : Type 0} (g : Ghosts S) (honest : Bool) (l : Layout) (old new : State) where
  pub memory_reported : (f : Fault) → f ≡ NoMemory → ReadsNot g honest l old new f → FailsToCount g honest l old new NoMemory
  memory_reported f is (inl h) = inl (subst (FailsToRead g l old new) is h)
  memory_reported f is (inr (inl h)) = absurd (let e = sym is ∙ h in cc)
  memory_reported f is (inr (inr (inl h))) = absurd (let e = sym is ∙ h in cc)
  memory_reported f is (inr (inr (inr h))) = absurd (let e = sym is ∙ h.0 in cc)

  refused_reported : (c : Cause) → (honest ≡ true → Contains (causes_in l (entries_of old.now l)) c)
      → (IsSure old new l → Contains (causes_in l (entries_of old.now l)) c) → FailsToCount g honest l old new Source
  refused_reported c h k = inr (refl, (λ yes. inr (has_none _ c (h yes))), λ sure. inr (has_none _ c (k sure)))

  pub source_reported : (f : Fault) → f ≢ NoMemory → (R : Cause → Type 0) → ReadsNot g honest l old new f
      → OnlyBy (λ c. R c × (honest ≡ true → Contains (causes_in l (entries_of old.now l)) c)) f
      → OnlyBy (λ c. IsSure old new l → Contains (causes_in l (entries_of old.now l)) c) f → FailsToCount g honest l old new Source
  source_reported NoMemory not R h by sure = absurd (not refl)
  source_reported Source not R (inl h) by sure = inl h
  source_reported Source not R (inr (inl h)) by sure = absurd (cc)
  source_reported Source not R (inr (inr (inl h))) by sure = absurd (cc)
  source_reported Source not R (inr (inr (inr h))) by sure = inr (refl, (λ yes. inl (h.1 yes)), λ k. inl (h.2 k))
  source_reported (Refused c) not R h by sure = refused_reported c by.1 sure
