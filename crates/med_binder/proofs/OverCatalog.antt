-- A query over the tables that its entries name is the query over all tables of the catalogue.
use Rattle.std.proofs.Common.{◌≡◌, ◌⊎◌, inl, inr, ℕ, true, List, [], ◌∷◌, Contains, length, map, flat_map, Result, Ok, Err, OnOk, IfErr, refl, sym, ap, ◌∙◌, subst, arith}
use Rattle.std.proofs.lemmas.List.Elements.{Contains-append_left}
use Rattle.med_value.specs.declared.cause.Cause.{Cause}
use Rattle.med_value.specs.declared.cause.Cause.TheVariants.{OutOfMemory}
use Rattle.med_syntax.specs.Prelude.{Name, EntryTree, SelectTree, StatementTree, select, cores_of, select_tree}
use Rattle.med_query.specs.Select.{are_safe_cores}
use Rattle.bind_names.specs.Prelude.{TableShape, table_shape, query_entries, entry_columns, entry_shape, entry_causes, core_alias_causes, entered_causes, asked_causes, once_known, select_name_causes, TellsCause}
use Rattle.bind_names.specs.declared.table.TableView.{TableView}
use Rattle.bind_types.specs.Typing.{select_type_causes}
use Rattle.med_binder.specs.Within.{widths}
use Rattle.med_binder.specs.Looking.{IsLookedUp}
use Rattle.med_binder.specs.declared.bound.BoundEntry.{BoundEntry}
use Rattle.med_binder.specs.declared.bound.BoundQuery.{BoundQuery}
use Rattle.med_binder.specs.declared.named.NamedQuery.{NamedQuery}
use Rattle.med_binder.specs.Place as offered
use Rattle.med_catalog.specs.Objects.{Objects, table_named}
use Rattle.med_binder.specs.Tables.{shapes}
use Rattle.med_binder.specs.Barred.{reading_causes, table_causes}
use Rattle.med_binder.specs.Queries.{QueryNames, QueryTypes}
use Rattle.med_binder.specs.Places.{Attached, ArePlaces}
use Rattle.med_binder.specs.Looked.{query_in, gathered_shape, AreEntriesAt, IsNamedOver, IsNameTold, NamesOver, IsBoundOver, TypesOver, IsToldOver, BindsOver}
use Rattle.med_binder.proofs.Binds.{own_entries}
use Rattle.med_binder.proofs.Seen.{SeesAll, causes_same, form_same, names_same, name_causes_same, answer_same, type_causes_same}
use Rattle.med_binder.proofs.Found.{sees_gathered}

-- the right causes of entries
abbrev pub rights_of : Objects → Name → List EntryTree → List Cause
rights_of o user es = flat_map (λ (e : EntryTree). table_causes reading_causes o user (table_named o e.table)) es

pub rights_told : (o : Objects) (user : Name) (q : SelectTree) (es : List EntryTree) (c : Cause) → es ≡ query_entries q → TellsCause (rights_of o user es) c → IsNameTold o user q c
rights_told o user q es c is t = record { told = by t.told }
  where
    by : (c ≡ OutOfMemory) ⊎ Contains (rights_of o user es) c → (c ≡ OutOfMemory) ⊎ QueryNames o user q c
    by (inl e) = inl e
    by (inr h) = inr (inr (subst (λ (xs : List EntryTree). Contains (rights_of o user xs) c) is h))

once_left : (xs ys : List Cause) (c : Cause) → Contains xs c → Contains (once_known xs ys) c
once_left [] ys c h = absurd (let within = h.1 in omega arith)
once_left (x ∷ xs) ys c h = h

pub entries_told : (o : Objects) (user : Name) (q : SelectTree) (es : List EntryTree) (c : Cause) → es ≡ query_entries q → TellsCause (flat_map (entry_causes (shapes o)) es) c → IsNameTold o user q c
entries_told o user q es c is t = record { told = by t.told }
  where
    by : (c ≡ OutOfMemory) ⊎ Contains (flat_map (entry_causes (shapes o)) es) c → (c ≡ OutOfMemory) ⊎ QueryNames o user q c
    by (inl e) = inl e
    by (inr h) = inr (inl (once_left (entered_causes (shapes o) q) (asked_causes (shapes o) q) c
        (Contains-append_left (flat_map (entry_causes (shapes o)) (query_entries q)) (flat_map core_alias_causes (cores_of q)) c
        (subst (λ (xs : List EntryTree). Contains (flat_map (entry_causes (shapes o)) xs) c) is h))))

none_in : (c : Cause) → Contains {X = Cause} [] c → ⊥
none_in c h = absurd (let within = h.1 in omega arith)

-- the gathered tables are seen as those of the catalogue
sees : (o : Objects) (q : SelectTree) (es : List EntryTree) (small : List TableShape) → es ≡ query_entries q → small ≡ map (gathered_shape (shapes o)) es → flat_map (entry_causes (shapes o)) es ≡ [] → SeesAll small (shapes o) (query_entries q)
sees o q es small is gathered none =
    subst (λ (xs : List TableShape). SeesAll xs (shapes o) (query_entries q)) (sym (gathered ∙ ap (map (gathered_shape (shapes o))) is))
    (sees_gathered (shapes o) (query_entries q) (subst (λ (xs : List EntryTree). flat_map (entry_causes (shapes o)) xs ≡ []) is none))

-- in the tables that were gathered all entries are known
pub known_there : (o : Objects) (q : SelectTree) (es : List EntryTree) (small : List TableShape) → es ≡ query_entries q → small ≡ map (gathered_shape (shapes o)) es → flat_map (entry_causes (shapes o)) es ≡ []
    → flat_map (entry_causes small) (query_entries q) ≡ []
known_there o q es small is gathered none =
    causes_same small (shapes o) (query_entries q) (sees o q es small is gathered none) ∙ ap (flat_map (entry_causes (shapes o))) (sym is) ∙ none

-- ---- names and rights

-- what is told of names over the tables that were gathered is told of them over the catalogue
pub names_told : (o : Objects) (user : Name) (q : SelectTree) (es : List EntryTree) (small : List TableShape) (c : Cause) → es ≡ query_entries q → small ≡ map (gathered_shape (shapes o)) es → flat_map (entry_causes (shapes o)) es ≡ []
    → TellsCause (select_name_causes small q) c → IsNameTold o user q c
names_told o user q es small c is gathered none t = record { told = by t.told }
  where
    by : (c ≡ OutOfMemory) ⊎ Contains (select_name_causes small q) c → (c ≡ OutOfMemory) ⊎ QueryNames o user q c
    by (inl e) = inl e
    by (inr h) = inr (inl (subst (λ (xs : List Cause). Contains xs c) (name_causes_same small (shapes o) q (sees o q es small is gathered none)) h))

-- a query that was looked up over the tables that were gathered
pub named_is : (o : Objects) (bound : List Attached) (user : Name) (t : StatementTree) (q : SelectTree) (es : List EntryTree) (entries : List BoundEntry) (n : NamedQuery) → t ≡ select q → select_tree n.select.now ≡ q → es ≡ query_entries q
    → map table_shape n.tables.items ≡ map (gathered_shape (shapes o)) es → flat_map (entry_causes (shapes o)) es ≡ [] → AreEntriesAt o bound es entries → IsLookedUp (map table_shape n.tables.items) q entries n.query
    → rights_of o user es ≡ [] → IsNamedOver o bound user (query_in t) n
named_is o bound user t q es entries n written own is gathered known placed looked rights =
    subst (λ (x : StatementTree). IsNamedOver o bound user (query_in x) n) (sym written) (record {
      written = own;
      gathered = gathered ∙ ap (map (gathered_shape (shapes o))) is;
      known = ap (flat_map (entry_causes (shapes o))) (sym is) ∙ known;
      entries = subst (λ (xs : List EntryTree). AreEntriesAt o bound xs n.query.entries.items) is (subst (λ (bs : List BoundEntry). AreEntriesAt o bound es bs) (sym looked.entries) placed);
      looked_up = own_entries (map table_shape n.tables.items) q entries n.query looked;
      rights = ap (rights_of o user) (sym is) ∙ rights;
    })

-- of a query whose names are resolved the tables that were gathered are seen as those of the catalogue
named_sees : (o : Objects) (bound : List Attached) (user : Name) (q : SelectTree) (n : NamedQuery) → IsNamedOver o bound user q n → SeesAll (map table_shape n.tables.items) (shapes o) (query_entries q)
named_sees o bound user q n is = sees o q (query_entries q) (map table_shape n.tables.items) refl is.gathered is.known

-- and no cause of names or rights stands over the catalogue
pub named_clear : (o : Objects) (bound : List Attached) (user : Name) (q : SelectTree) (n : NamedQuery) → IsNamedOver o bound user q n → (c : Cause) → QueryNames o user q c → ⊥
named_clear o bound user q n is c (inl h) =
    none_in c (subst (λ (xs : List Cause). Contains xs c) (sym (name_causes_same (map table_shape n.tables.items) (shapes o) q (named_sees o bound user q n is)) ∙ is.looked_up.clear) h)
named_clear o bound user q n is c (inr h) = none_in c (subst (λ (xs : List Cause). Contains xs c) is.rights h)

pub none_named : (o : Objects) (bound : List Attached) (user : Name) (q : SelectTree) (r : Result NamedQuery Cause) → NamesOver o bound user q r → OnOk r ((c : Cause) → QueryNames o user q c → ⊥)
none_named o bound user q (Ok n) is = named_clear o bound user q n is
none_named o bound user q (Err c) is = tt

-- ---- types

-- how many columns the entries bring into view
widths_seen : (tables : List TableShape) (es : List EntryTree) → map (λ (e : EntryTree). length (entry_columns tables e)) es ≡ widths (map (entry_shape tables) es)
widths_seen tables [] = refl
widths_seen tables (e ∷ es) = ap (λ (ns : List ℕ). length (entry_columns tables e) ∷ ns) (widths_seen tables es)

-- the query, where its types fit
pub typed_over : (o : Objects) (bound : List Attached) (user : Name) (q : SelectTree) (n : NamedQuery) → IsNamedOver o bound user q n → select_type_causes (shapes o) q ≡ [] → are_safe_cores n.query.select.cores.items ≡ true
    → IsBoundOver o bound user q n.query
typed_over o bound user q n is types safe = record {
  meant = record {
    names = is.looked_up.meant.names ∙ names_same small (shapes o) q seen;
    entries = is.entries.places;
    form = is.looked_up.meant.form ∙ form_same small (shapes o) q seen;
  };
  there = subst (λ (ks : List ℕ). ArePlaces bound ks (map offered.entry_place n.query.entries.items)) is.entries.places is.entries.there;
  widths = is.entries.widths ∙ widths_seen (shapes o) (query_entries q);
  kinds = is.looked_up.kinds ∙ answer_same small (shapes o) q seen;
  safe = safe;
  names = sym (name_causes_same small (shapes o) q seen) ∙ is.looked_up.clear;
  rights = is.rights;
  types = types;
}
  where
    small : List TableShape
    small = map table_shape n.tables.items

    seen : SeesAll small (shapes o) (query_entries q)
    seen = named_sees o bound user q n is

-- what was looked up, over the tables as they are handed on
pub own_looked : (o : Objects) (bound : List Attached) (user : Name) (q : SelectTree) (n : NamedQuery) (tables : List TableView) → tables ≡ n.tables.items → IsNamedOver o bound user q n
    → IsLookedUp (map table_shape tables) (select_tree n.select.now) n.query.entries.items n.query
own_looked o bound user q n tables e is =
    subst (λ (t : SelectTree). IsLookedUp (map table_shape tables) t n.query.entries.items n.query) (sym is.written)
    (subst (λ (ts : List TableView). IsLookedUp (map table_shape ts) q n.query.entries.items n.query) (sym e) is.looked_up)

-- and the causes of its types over the catalogue
pub own_types : (o : Objects) (bound : List Attached) (user : Name) (q : SelectTree) (n : NamedQuery) (tables : List TableView) → tables ≡ n.tables.items → IsNamedOver o bound user q n
    → select_type_causes (map table_shape tables) (select_tree n.select.now) ≡ select_type_causes (shapes o) q
own_types o bound user q n tables e is =
    ap (λ (ts : List TableView). select_type_causes (map table_shape ts) (select_tree n.select.now)) e ∙ ap (select_type_causes (map table_shape n.tables.items)) is.written
    ∙ type_causes_same (map table_shape n.tables.items) (shapes o) q (named_sees o bound user q n is)

-- ---- both

pub early_told : (o : Objects) (user : Name) (q : SelectTree) (c : Cause) → IsNameTold o user q c → IsToldOver o user q c
early_told o user q c t = record { told = by t.told }
  where
    by : (c ≡ OutOfMemory) ⊎ QueryNames o user q c → (c ≡ OutOfMemory) ⊎ (QueryNames o user q c ⊎ (Contains (select_type_causes (shapes o) q) c × ((d : Cause) → QueryNames o user q d → ⊥)))
    by (inl e) = inl e
    by (inr h) = inr (inl h)

-- behind names and rights that are clear
pub late_told : (o : Objects) (bound : List Attached) (user : Name) (q : SelectTree) (r : Result BoundQuery Cause) → ((c : Cause) → QueryNames o user q c → ⊥) → TypesOver o bound user q r → BindsOver o bound user q r
late_told o bound user q (Ok b) clear is = is
late_told o bound user q (Err c) clear t = record { told = by t.told }
  where
    by : (c ≡ OutOfMemory) ⊎ Contains (select_type_causes (shapes o) q) c → (c ≡ OutOfMemory) ⊎ (QueryNames o user q c ⊎ (Contains (select_type_causes (shapes o) q) c × ((d : Cause) → QueryNames o user q d → ⊥)))
    by (inl e) = inl e
    by (inr h) = inr (inr (h, clear))

-- where no cause stands, only memory is refused
pub only_memory : (o : Objects) (bound : List Attached) (user : Name) (q : SelectTree) (r : Result BoundQuery Cause) → ((c : Cause) → QueryNames o user q c → ⊥) → ((c : Cause) → QueryTypes o q c → ⊥) → BindsOver o bound user q r → IfErr r (λ c. c ≡ OutOfMemory)
only_memory o bound user q (Ok b) names types h = tt
only_memory o bound user q (Err c) names types h = by h.told
  where
    by : (c ≡ OutOfMemory) ⊎ (QueryNames o user q c ⊎ (Contains (select_type_causes (shapes o) q) c × ((d : Cause) → QueryNames o user q d → ⊥))) → c ≡ OutOfMemory
    by (inl e) = e
    by (inr (inl h)) = absurd (names c h)
    by (inr (inr h)) = absurd (types c h.0)
