-- UPDATE over the tables of a catalogue.
use Rattle.std.proofs.Common.{◌≡◌, List, [], ◌++◌, Option, Contains, refl, sym, ◌∙◌, subst}
use Rattle.std.proofs.lemmas.List.Elements.{Contains-append_left, Contains-append_right}
use Rattle.med_value.specs.Column.{Column}
use Rattle.med_value.specs.declared.cause.Cause.{Cause}
use Rattle.med_value.specs.declared.cause.Cause.TheVariants.{MisplacedName}
use Rattle.med_syntax.specs.Prelude.{Name, UpdateTree, update}
use Rattle.tri_expr.specs.Tree.{Tree}
use Rattle.med_write.specs.Form.{update_form}
use Rattle.bind_names.specs.Prelude.{once_known, TellsCause}
use Rattle.bind_names.proofs.Causes.{none_of_two}
use Rattle.med_binder.specs.Prelude.{TellsInTurn, target_right_causes, Attached, shapes}
use Rattle.med_catalog.specs.Objects.{Objects}
use Rattle.bind_write.specs.declared.target.Target.{Target}
use Rattle.bind_write.specs.declared.write_values.BoundValues.{BoundValues}
use Rattle.bind_write.specs.Meaning.{columns_in, scope_in, cells_meant}
use Rattle.bind_write.specs.Naming.{target_causes, list_causes, names_of, set_names, set_values}
use Rattle.bind_write.specs.Typing.{asked_types, cells_causes, set_types, types_of}
use Rattle.bind_write.specs.Asking.{IsTarget, AreBound, value_names}
use Rattle.bind_write.proofs.Lists.{in_turn_by, names_in_turn, types_in_turn}
use Rattle.bind_write.proofs.Writes.{names_left}

-- a cause of the list of columns
pub list_told : (known others names rights ts : List Cause) (c : Cause) → known ≡ [] → TellsCause others c → TellsInTurn (once_known known (others ++ names) ++ rights) ts c
list_told known others names rights ts c k t =
    names_in_turn others (once_known known (others ++ names) ++ rights) ts c
    (λ d h. Contains-append_left (once_known known (others ++ names)) rights d
    (subst (λ ks. Contains (once_known ks (others ++ names)) d) (sym k) (Contains-append_left others names d h))) t

pub list_same : (twice : Cause) (columns seen : List Column) (names ns : List Name) → seen ≡ columns → ns ≡ names → list_causes twice seen ns ≡ list_causes twice columns names
list_same twice columns seen names ns c n = rw (c, n) refl

abbrev set_list : Objects → UpdateTree → List Cause
set_list o u = list_causes MisplacedName (columns_in (shapes o) u.entry.table) (set_names u.sets)

-- of SET and WHERE
abbrev names_set : Objects → UpdateTree → List Cause
names_set o u = value_names (scope_in (shapes o) u.entry) (set_values u.sets) u.condition

abbrev types_set : Objects → UpdateTree → List Cause
types_set o u = asked_types (scope_in (shapes o) u.entry) (set_values u.sets) u.condition

update_names : (o : Objects) (bound : List Attached) (user : Name) (u : UpdateTree) (t : Target) → IsTarget o bound user u.entry.table t → set_list o u ≡ [] → names_set o u ≡ names_of o user (update u)
update_names o bound user u t is none = names_left (target_causes (shapes o) u.entry.table) (set_list o u) (names_set o u) (target_right_causes o user u.entry.table) is.known none is.rights

pub updated_told : (o : Objects) (bound : List Attached) (user : Name) (u : UpdateTree) (t : Target) (c : Cause) → IsTarget o bound user u.entry.table t → set_list o u ≡ []
    → TellsInTurn (names_set o u) (types_set o u) c → TellsInTurn (names_of o user (update u)) (types_of o (update u)) c
updated_told o bound user u t c is none h =
    in_turn_by (names_set o u) (names_of o user (update u)) (types_set o u) (types_of o (update u)) c (update_names o bound user u t is none) (λ i. Contains-append_left (types_set o u) _ c i) h

abbrev written_cells : Objects → UpdateTree → List Cause
written_cells o u =
    let columns = columns_in (shapes o) u.entry.table in
    cells_causes columns (set_types columns (cells_meant (scope_in (shapes o) u.entry) columns u.sets))

pub cells_told : (o : Objects) (bound : List Attached) (user : Name) (u : UpdateTree) (t : Target) (v : BoundValues) (c : Cause) (xs : List Cause) → IsTarget o bound user u.entry.table t → set_list o u ≡ []
    → AreBound (scope_in (shapes o) u.entry) (set_values u.sets) u.condition v → xs ≡ written_cells o u → TellsCause xs c → TellsInTurn (names_of o user (update u)) (types_of o (update u)) c
cells_told o bound user u t v c xs is none found same h =
    types_in_turn (names_of o user (update u)) (written_cells o u) (types_of o (update u)) c (sym (update_names o bound user u t is none) ∙ found.names)
    (λ d i. Contains-append_right (types_set o u) (written_cells o u) d i) (subst (λ ys. TellsCause ys c) same h)

pub update_clear : (o : Objects) (bound : List Attached) (user : Name) (u : UpdateTree) (t : Target) (v : BoundValues) → IsTarget o bound user u.entry.table t → set_list o u ≡ []
    → AreBound (scope_in (shapes o) u.entry) (set_values u.sets) u.condition v → names_of o user (update u) ≡ []
update_clear o bound user u t v is none found = sym (update_names o bound user u t is none) ∙ found.names

pub update_typed : (o : Objects) (u : UpdateTree) (v : BoundValues) (xs : List Cause) → AreBound (scope_in (shapes o) u.entry) (set_values u.sets) u.condition v → xs ≡ written_cells o u → xs ≡ [] → types_of o (update u) ≡ []
update_typed o u v xs found same none = none_of_two (types_set o u) (written_cells o u) found.types (sym same ∙ none)

pub update_formed : (cs ds : List Tree) (xs ys : List (Option Tree)) → cs ≡ ds → xs ≡ ys → update_form cs xs ≡ update_form ds ys
update_formed cs ds xs ys c x = rw (c, x) refl
