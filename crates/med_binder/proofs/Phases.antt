-- Names and rights are of phase 3.
use Rattle.std.proofs.Common.{◌≡◌, inl, inr, List, [], ◌∷◌, Option, Some, None, All, flat_map, unwrap_or, refl, ap}
use Rattle.std.proofs.lemmas.List.Elements.{All-append, All-cons, All-contains, All-nil}
use Rattle.med_value.specs.declared.cause.Cause.{Cause}
use Rattle.med_value.specs.declared.cause.Cause.TheVariants.{UndefinedObject}
use Rattle.med_syntax.specs.Prelude.{Name, EntryTree, SelectTree, select}
use Rattle.bind_names.specs.Scope.{query_entries}
use Rattle.med_catalog.specs.Prelude.{TableObject, Objects, table_named, mode_for, phase}
use Rattle.med_catalog.specs.declared.kind.Mode.{Mode}
use Rattle.med_binder.proofs.LawPhases.{names_are_of_phase, types_are_of_phase}
use Rattle.med_binder.specs.Barred.{reading_causes, table_causes, query_right_causes}
use Rattle.med_binder.specs.Tables.{shapes}
use Rattle.med_binder.specs.Queries.{QueryNames, QueryTypes}

abbrev OfThree : Cause → Type 0
OfThree c = phase c ≡ 3

reading : (m : Option Mode) → All OfThree (reading_causes m)
reading None = All-cons OfThree UndefinedObject [] refl (All-nil OfThree)
reading (Some m) = All-nil OfThree

at_table : (o : Objects) (user : Name) (t : Option TableObject) → All OfThree (table_causes reading_causes o user t)
at_table o user None = All-nil OfThree
at_table o user (Some t) = reading (mode_for o user t.server)

rights : (o : Objects) (user : Name) (es : List EntryTree) → All OfThree (flat_map (λ (e : EntryTree). table_causes reading_causes o user (table_named o e.table)) es)
rights o user [] = All-nil OfThree
rights o user (e ∷ es) = All-append OfThree (table_causes reading_causes o user (table_named o e.table)) (flat_map (λ (e : EntryTree). table_causes reading_causes o user (table_named o e.table)) es) (at_table o user (table_named o e.table)) (rights o user es)

pub names : (o : Objects) (user : Name) (q : SelectTree) (c : Cause) → QueryNames o user q c → phase c ≡ 3
names o user q c (inl h) = ap (λ p. unwrap_or p 7) (names_are_of_phase (shapes o) (select q) c h)
names o user q c (inr h) = All-contains OfThree (query_right_causes o user q) c (rights o user (query_entries q)) h

pub types : (o : Objects) (q : SelectTree) (c : Cause) → QueryTypes o q c → phase c ≡ 4
types o q c h = ap (λ p. unwrap_or p 7) (types_are_of_phase (shapes o) (select q) c h)
