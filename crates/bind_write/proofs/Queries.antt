-- The query of an INSERT over the tables of a catalogue.
use Rattle.std.proofs.Common.{◌≡◌, ◌⊎◌, inl, inr, ℕ, List, [], ◌∷◌, ◌++◌, map, Option, Contains, flat_map, Result, Ok, Err, refl, sym, ap, ◌∙◌, subst}
use Rattle.std.proofs.lemmas.List.Elements.{Contains-append_left, Contains-append_right}
use Rattle.med_value.specs.Column.{Column, column_of}
use Rattle.med_value.specs.declared.value.ColType.{ColType}
use Rattle.med_value.specs.declared.cause.Cause.{Cause}
use Rattle.med_value.specs.declared.cause.Cause.TheVariants.{OutOfMemory}
use Rattle.med_syntax.specs.Prelude.{Name, SelectTree, statement_tree, rows_of, given_tree}
use Rattle.med_syntax.specs.declared.statement.Statement.{Statement}
use Rattle.med_syntax.specs.declared.statement.Statement.TheVariants as s
use Rattle.med_syntax.specs.declared.write.Given.TheVariants as g
use Rattle.med_write.specs.Form.{insert_form, answer_form}
use Rattle.bind_names.specs.Prelude.{entered_causes, asked_causes, select_name_causes, once_known, TellsCause}
use Rattle.bind_names.proofs.Causes.{none_of_two}
use Rattle.bind_types.specs.Typing.{answer_types, select_type_causes}
use Rattle.med_binder.specs.Prelude.{bound_kinds, TellsInTurn, query_right_causes, target_right_causes, query_in, TypesOver, Attached, QueryNames, shapes}
use Rattle.med_binder.specs.declared.bound.BoundQuery.{BoundQuery}
use Rattle.med_catalog.specs.Objects.{Objects}
use Rattle.bind_write.proofs.Lists.{empty_by, in_turn_by, types_in_turn}
use Rattle.bind_write.specs.Asking.{IsTarget}
use Rattle.bind_write.specs.Meaning.{columns_in, places_meant}
use Rattle.bind_write.specs.Naming.{target_causes, named_causes, names_of}
use Rattle.bind_write.specs.Typing.{row_fit_causes, types_of}
use Rattle.bind_write.specs.declared.target.Target.{Target}
use Rattle.bind_write.proofs.Updates.{list_told}
use Rattle.bind_write.specs.Binding.{query_write}
use Rattle.bind_write.specs.Steps.{query_names, IsAskedQuery, AsksQuery}

once_empty : (xs ys : List Cause) → once_known xs ys ≡ [] → (xs ≡ []) × (ys ≡ [])
once_empty [] ys h = (refl, h)
once_empty (x ∷ xs) ys h = absurd cc

once_wider : (xs ys zs : List Cause) (c : Cause) → Contains (once_known xs zs) c → Contains (once_known xs (ys ++ zs)) c
once_wider [] ys zs c h = Contains-append_right ys zs c h
once_wider (x ∷ xs) ys zs c h = h

-- where no cause of names or rights stands, all tables of FROM are known
pub parts_clear : (o : Objects) (user : Name) (q : SelectTree) → ((c : Cause) → QueryNames o user q c → ⊥)
    → (entered_causes (shapes o) q ≡ []) × (asked_causes (shapes o) q ≡ []) × (query_right_causes o user q ≡ [])
parts_clear o user q clear =
    let both = once_empty (entered_causes (shapes o) q) (asked_causes (shapes o) q) (empty_by (select_name_causes (shapes o) q) (λ c h. clear c (inl h))) in
    (both.0, both.1, empty_by (query_right_causes o user q) (λ c h. clear c (inr h)))

names_clear : (f l a r : List Cause) → f ≡ [] → l ≡ [] → a ≡ [] → r ≡ [] → once_known f (l ++ a) ++ r ≡ []
names_clear f l a r e k h i = rw (e, k, h, i) refl

pub query_list : (o : Objects) (user : Name) (columns : List Column) (names : Option (List Name)) (q : SelectTree) (c : Cause)
    → ((d : Cause) → QueryNames o user q d → ⊥) → TellsCause (named_causes columns names) c → TellsInTurn (query_names o user columns names q) (select_type_causes (shapes o) q) c
query_list o user columns names q c clear t =
    list_told (entered_causes (shapes o) q) (named_causes columns names) (asked_causes (shapes o) q) (query_right_causes o user q) (select_type_causes (shapes o) q) c (parts_clear o user q clear).0 t

-- a cause of its names or rights
pub query_early : (o : Objects) (user : Name) (columns : List Column) (names : Option (List Name)) (q : SelectTree) (c : Cause)
    → (c ≡ OutOfMemory) ⊎ QueryNames o user q c → TellsInTurn (query_names o user columns names q) (select_type_causes (shapes o) q) c
query_early o user columns names q c (inl e) = record { told = inl e }
query_early o user columns names q c (inr (inl i)) =
    record {
      told = inr (inl (Contains-append_left (once_known (entered_causes (shapes o) q) (named_causes columns names ++ asked_causes (shapes o) q)) (query_right_causes o user q) c
          (once_wider (entered_causes (shapes o) q) (named_causes columns names) (asked_causes (shapes o) q) c i)));
    }
query_early o user columns names q c (inr (inr i)) =
    record { told = inr (inl (Contains-append_right (once_known (entered_causes (shapes o) q) (named_causes columns names ++ asked_causes (shapes o) q)) (query_right_causes o user q) c i)) }

-- its types, where no cause of names or rights stands
pub query_judged : (o : Objects) (bound : List Attached) (user : Name) (columns : List Column) (names : Option (List Name)) (q : SelectTree) (r : Result BoundQuery Cause)
    → ((d : Cause) → QueryNames o user q d → ⊥) → named_causes columns names ≡ [] → TypesOver o bound user q r → AsksQuery o bound user columns names q r
query_judged o bound user columns names q (Ok b) clear listed is =
    let parts = parts_clear o user q clear in
    record {
      meant = is.meant;
      there = is.there;
      widths = is.widths;
      kinds = is.kinds;
      safe = is.safe;
      names = names_clear (entered_causes (shapes o) q) (named_causes columns names) (asked_causes (shapes o) q) (query_right_causes o user q) parts.0 listed parts.1 parts.2;
      types = is.types;
    }
query_judged o bound user columns names q (Err c) clear listed t =
    let parts = parts_clear o user q clear in
    types_in_turn (query_names o user columns names q) (select_type_causes (shapes o) q) (select_type_causes (shapes o) q) c
    (names_clear (entered_causes (shapes o) q) (named_causes columns names) (asked_causes (shapes o) q) (query_right_causes o user q) parts.0 listed parts.1 parts.2) (λ d i. i) t

-- ---- the whole INSERT

pub given_query : (q : Statement) → given_tree (g.Rows q) ≡ rows_of (query_in (statement_tree q))
given_query (s.Select q) = refl

-- its names, where its table is known and may be written
pub inserted_names : (known from listed asked rights more : List Cause) → known ≡ [] → rights ≡ []
    → once_known from (listed ++ asked) ++ more ≡ once_known (known ++ from) (listed ++ asked) ++ (rights ++ more)
inserted_names known from listed asked rights more k r = rw (k, r) refl

pub answer_formed : (columns seen : List Column) (names : Option (List Name)) (places : List (Option ℕ)) → places ≡ places_meant names seen → seen ≡ columns
    → insert_form places answer_form ≡ insert_form (places_meant names columns) answer_form
answer_formed columns seen names places p c = rw (p, c) refl

asked_same : (o : Objects) (bound : List Attached) (user name : Name) (names : Option (List Name)) (q : SelectTree) (t : Target) → IsTarget o bound user name t
    → query_names o user (map column_of t.columns.now) names q ≡ names_of o user (query_write name names q)
asked_same o bound user name names q t is =
    ap (λ cs. query_names o user cs names q) is.columns
    ∙ inserted_names (target_causes (shapes o) name) (entered_causes (shapes o) q) (named_causes (columns_in (shapes o) name) names) (asked_causes (shapes o) q) (target_right_causes o user name)
    (query_right_causes o user q) is.known is.rights

pub asked_told : (o : Objects) (bound : List Attached) (user name : Name) (names : Option (List Name)) (q : SelectTree) (t : Target) (c : Cause) → IsTarget o bound user name t
    → TellsInTurn (query_names o user (map column_of t.columns.now) names q) (select_type_causes (shapes o) q) c
    → TellsInTurn (names_of o user (query_write name names q)) (types_of o (query_write name names q)) c
asked_told o bound user name names q t c is h =
    in_turn_by (query_names o user (map column_of t.columns.now) names q) (names_of o user (query_write name names q)) (select_type_causes (shapes o) q) (types_of o (query_write name names q)) c
    (asked_same o bound user name names q t is)
    (λ i. Contains-append_left (select_type_causes (shapes o) q) (flat_map (row_fit_causes (columns_in (shapes o) name) names) (answer_types (shapes o) q)) c i) h

fits_answer : (o : Objects) (bound : List Attached) (user name : Name) (names : Option (List Name)) (q : SelectTree) (t : Target) (b : BoundQuery) (rows : List (List (Option ColType))) → IsTarget o bound user name t
    → IsAskedQuery o bound user (map column_of t.columns.now) names q b → rows ≡ bound_kinds b
    → flat_map (row_fit_causes (map column_of t.columns.now) names) rows ≡ flat_map (row_fit_causes (columns_in (shapes o) name) names) (answer_types (shapes o) q)
fits_answer o bound user name names q t b rows is asked e =
    ap (λ cs. flat_map (row_fit_causes cs names) rows) is.columns ∙ ap (flat_map (row_fit_causes (columns_in (shapes o) name) names)) (e ∙ asked.kinds)

pub answer_told : (o : Objects) (bound : List Attached) (user name : Name) (names : Option (List Name)) (q : SelectTree) (t : Target) (b : BoundQuery) (rows : List (List (Option ColType))) (c : Cause)
    → IsTarget o bound user name t → IsAskedQuery o bound user (map column_of t.columns.now) names q b → rows ≡ bound_kinds b
    → TellsCause (flat_map (row_fit_causes (map column_of t.columns.now) names) rows) c
    → TellsInTurn (names_of o user (query_write name names q)) (types_of o (query_write name names q)) c
answer_told o bound user name names q t b rows c is asked e h =
    types_in_turn (names_of o user (query_write name names q)) (flat_map (row_fit_causes (columns_in (shapes o) name) names) (answer_types (shapes o) q)) (types_of o (query_write name names q)) c
    (sym (asked_same o bound user name names q t is) ∙ asked.names)
    (λ d i. Contains-append_right (select_type_causes (shapes o) q) (flat_map (row_fit_causes (columns_in (shapes o) name) names) (answer_types (shapes o) q)) d i)
    (subst (λ xs. TellsCause xs c) (fits_answer o bound user name names q t b rows is asked e) h)

pub query_clear : (o : Objects) (bound : List Attached) (user name : Name) (names : Option (List Name)) (q : SelectTree) (t : Target) (b : BoundQuery) → IsTarget o bound user name t
    → IsAskedQuery o bound user (map column_of t.columns.now) names q b → names_of o user (query_write name names q) ≡ []
query_clear o bound user name names q t b is asked = sym (asked_same o bound user name names q t is) ∙ asked.names

pub query_typed : (o : Objects) (bound : List Attached) (user name : Name) (names : Option (List Name)) (q : SelectTree) (t : Target) (b : BoundQuery) (rows : List (List (Option ColType))) → IsTarget o bound user name t
    → IsAskedQuery o bound user (map column_of t.columns.now) names q b → rows ≡ bound_kinds b
    → flat_map (row_fit_causes (map column_of t.columns.now) names) rows ≡ [] → types_of o (query_write name names q) ≡ []
query_typed o bound user name names q t b rows is asked e none =
    none_of_two (select_type_causes (shapes o) q) (flat_map (row_fit_causes (columns_in (shapes o) name) names) (answer_types (shapes o) q)) asked.types
    (sym (fits_answer o bound user name names q t b rows is asked e) ∙ none)
