-- What SET says of each column.
use Rattle.std.proofs.Common.{◌≡◌, ℕ, suc, Bool, true, false, List, [], ◌∷◌, map, Option, Some, None, option_map, slice_get, bytes_eq, if◌then◌else◌, refl, ap, ◌∙◌}
use Rattle.std.specs.Option.{option_and_then}
use Rattle.med_value.specs.Column.{Column}
use Rattle.med_value.specs.declared.value.ColType.{ColType}
use Rattle.med_syntax.specs.Prelude.{Name, ExprTree, SetTree}
use Rattle.tri_expr.specs.Tree.{Tree}
use Rattle.bind_names.specs.Prelude.{Scope, resolved}
use Rattle.bind_types.specs.TreeTypes.{tree_type, column_kinds}
use Rattle.bind_write.specs.Meaning.{set_for, cells_meant, name_place}
use Rattle.bind_write.specs.Naming.{set_names, set_values}
use Rattle.bind_write.specs.Typing.{cells_causes, set_types}

place_by : (b : Bool) (at : ℕ) (p r : Option ℕ) → r ≡ option_map (λ (k : ℕ). suc k) p → (if b then Some (suc at) else r) ≡ option_map (λ (k : ℕ). suc k) (if b then Some at else p)
place_by true at p r e = refl
place_by false at p r e = e

place_next : (at : ℕ) (ns : List Name) (n : Name) → name_place (suc at) ns n ≡ option_map (λ (k : ℕ). suc k) (name_place at ns n)
place_next at [] n = refl
place_next at (m ∷ ms) n = place_by (bytes_eq m n) at (name_place (suc at) ms n) (name_place (suc (suc at)) ms n) (place_next (suc at) ms n)

get_next : {X : Type 0} (x : X) (xs : List X) (p : Option ℕ) → option_and_then (slice_get (x ∷ xs)) (option_map (λ (k : ℕ). suc k) p) ≡ option_and_then (slice_get xs) p
get_next x xs None = refl
get_next x xs (Some k) = refl

set_by : (s : Scope) (b : Bool) (x : SetTree) (ts : List Tree) (p : Option ℕ) (r : Option ExprTree) → option_and_then (slice_get (resolved s x.value ∷ ts)) p ≡ option_map (resolved s) r
    → option_and_then (slice_get (resolved s x.value ∷ ts)) (if b then Some 0 else p) ≡ option_map (resolved s) (if b then Some x.value else r)
set_by s true x ts p r e = refl
set_by s false x ts p r e = e

-- the expression in the place of a column's name is what SET says of it
pub set_found : (s : Scope) (sets : List SetTree) (n : Name) → option_and_then (slice_get (map (resolved s) (set_values sets))) (name_place 0 (set_names sets) n) ≡ option_map (resolved s) (set_for n sets)
set_found s [] n = refl
set_found s (x ∷ xs) n =
    set_by s (bytes_eq x.column n) x (map (resolved s) (set_values xs)) (name_place 1 (set_names xs) n) (set_for n xs)
    (ap (option_and_then (slice_get (map (resolved s) (set_values (x ∷ xs))))) (place_next 0 (set_names xs) n) ∙ get_next (resolved s x.value) (map (resolved s) (set_values xs)) (name_place 0 (set_names xs) n) ∙ set_found s xs n)

each_found : (s : Scope) (sets : List SetTree) (columns : List Column)
    → map (λ (c : Column). option_and_then (slice_get (map (resolved s) (set_values sets))) (name_place 0 (set_names sets) c.name)) columns ≡ cells_meant s columns sets
each_found s sets [] = refl
each_found s sets (c ∷ cs) = rw (set_found s sets c.name, each_found s sets cs) refl

pub cells_are : (s : Scope) (sets : List SetTree) (columns seen : List Column) (vs : List Tree) (ns : List Name) (cells : List (Option Tree))
    → cells ≡ map (λ (c : Column). option_and_then (slice_get vs) (name_place 0 ns c.name)) seen → seen ≡ columns → vs ≡ map (resolved s) (set_values sets) → ns ≡ set_names sets
    → cells ≡ cells_meant s columns sets
cells_are s sets columns seen vs ns cells e c v n =
    e ∙ ap (map (λ (c : Column). option_and_then (slice_get vs) (name_place 0 ns c.name))) c
    ∙ ap (λ ts. map (λ (c : Column). option_and_then (slice_get ts) (name_place 0 ns c.name)) columns) v
    ∙ ap (λ ms. map (λ (c : Column). option_and_then (slice_get (map (resolved s) (set_values sets))) (name_place 0 ms c.name)) columns) n
    ∙ each_found s sets columns

pub typed_cells : (columns seen : List Column) (given : List (Option (Option ColType))) (kinds : List ColType) (cells meant : List (Option Tree))
    → seen ≡ columns → given ≡ map (option_map (tree_type kinds)) cells → kinds ≡ column_kinds columns → cells ≡ meant → cells_causes seen given ≡ cells_causes columns (set_types columns meant)
typed_cells columns seen given kinds cells meant c g k m =
    ap (λ cs. cells_causes cs given) c ∙ ap (cells_causes columns) (g ∙ ap (λ ks. map (option_map (tree_type ks)) cells) k ∙ ap (map (option_map (tree_type (column_kinds columns)))) m)
