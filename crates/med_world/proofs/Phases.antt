-- Which phase the causes of queries and of statements on objects are of.
use Rattle.std.proofs.Common.{◌≡◌, ◌≢◌, ℕ, ◌≤◌, ◌⊎◌, ◌&&◌, Bool, true, false, eqb, List, [], ◌∷◌, Option, Some, None, Contains, flat_map, unwrap_or, nat_eq, refl, ap, sym, ◌∙◌, inl, inr}
use Rattle.std.specs.List.{list_all}
use Rattle.std.proofs.lemmas.List.Elements.{All-contains}
use Rattle.std.proofs.lemmas.List.Folds.{list_all-append}
use Rattle.std.proofs.lemmas.List.Sums.{AllPass-from_list_all}
use Rattle.std.proofs.lemmas.Bool.{false≢true}
use Rattle.std.proofs.lemmas.Bool.Decides.{eqb_tells}
use Rattle.med_value.specs.Causes.{phase_of}
use Rattle.med_value.specs.declared.cause.Cause.{Cause}
use Rattle.med_syntax.specs.Prelude.{Name, EntryTree, SelectTree, StatementTree, select, DdlTree}
use Rattle.bind_names.specs.Prelude.{TableShape, query_entries, NameCauses}
use Rattle.bind_types.specs.Typing.{TypeCauses}
use Rattle.med_catalog.specs.Prelude.{TableObject, Objects, table_named, mode_for, DdlCauses, phase}
use Rattle.med_catalog.specs.declared.kind.Mode.{Mode}
use Rattle.med_binder.specs.Prelude.{shapes, reading_causes, table_causes, query_right_causes, QueryNames}
use Rattle.med_world.proofs.Kept.{asks_once}
use Rattle.med_world.proofs.Objecting.{AreObjects}
use Rattle.med_world.proofs.Querying.{ArePhased}

-- ---- rights

abbrev is_third : Cause → Bool
is_third c = nat_eq (phase c) 3

reading_third : (m : Option Mode) → list_all is_third (reading_causes m) ≡ true
reading_third None = refl
reading_third (Some mode) = refl

table_third : (o : Objects) (user : Name) (t : Option TableObject) → list_all is_third (table_causes reading_causes o user t) ≡ true
table_third o user None = refl
table_third o user (Some t) = reading_third (mode_for o user t.server)

all_third : (o : Objects) (user : Name) (es : List EntryTree) → list_all is_third (flat_map (λ (e : EntryTree). table_causes reading_causes o user (table_named o e.table)) es) ≡ true
all_third o user [] = refl
all_third o user (e ∷ es) =
    list_all-append is_third (table_causes reading_causes o user (table_named o e.table)) (flat_map (λ (x : EntryTree). table_causes reading_causes o user (table_named o x.table)) es)
    ∙ (λ i. table_third o user (table_named o e.table) i && all_third o user es i)

third : (c : Cause) → is_third c ≡ true → phase c ≡ 3
third c h = split (eqb_tells (phase c) 3)
  where
    split : ((eqb (phase c) 3 ≡ true) × (phase c ≡ 3)) ⊎ ((eqb (phase c) 3 ≡ false) × (phase c ≢ 3)) → phase c ≡ 3
    split (inl e) = e.1
    split (inr e) = absurd (false≢true (sym e.0 ∙ h))

rights_phase : (o : Objects) (user : Name) (q : SelectTree) (c : Cause) → Contains (query_right_causes o user q) c → phase c ≡ 3
rights_phase o user q c h =
    third c (All-contains (λ x. is_third x ≡ true) (query_right_causes o user q) c (AllPass-from_list_all is_third (query_right_causes o user q) (all_third o user (query_entries q))) h)

-- ---- queries

told_phase : (c : Cause) (p : ℕ) → phase_of c ≡ Some p → phase c ≡ p
told_phase c p e = ap (λ o. unwrap_or o 7) e

-- what the laws of binding say
pub record BindsInPhases : Type 0 where
  pub names : (tables : List TableShape) (statement : StatementTree) (c : Cause) → NameCauses tables statement c → phase_of c ≡ Some 3
  pub types : (tables : List TableShape) (statement : StatementTree) (c : Cause) → TypeCauses tables statement c → phase_of c ≡ Some 4

pub queries_phased : BindsInPhases → ArePhased
queries_phased law = record { names = names; types = λ o q c h. told_phase c 4 (law.types (shapes o) (select q) c h) }
  where
    names : (o : Objects) (user : Name) (q : SelectTree) (c : Cause) → QueryNames o user q c → phase c ≡ 3
    names o user q c (inl h) = told_phase c 3 (law.names (shapes o) (select q) c h)
    names o user q c (inr h) = rights_phase o user q c h

-- ---- statements on objects

-- what the laws of the catalogue say
pub record ObjectsInPhases : Type 0 where
  pub lowest : (o : Objects) (leased : Name → Bool) (user : Name) (d : DdlTree) (c : Cause) → DdlCauses o leased user d c → 3 ≤ phase c
  pub highest : (o : Objects) (leased : Name → Bool) (user : Name) (d : DdlTree) (c : Cause) → DdlCauses o leased user d c → phase c ≤ 5

pub objects_phased : ObjectsInPhases → AreObjects
objects_phased law = record { early = law.lowest; late = law.highest; once = asks_once }
