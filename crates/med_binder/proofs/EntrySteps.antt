-- Entries of FROM, one after the other.
use Rattle.std.proofs.Common.{◌≡◌, ℕ, All, List, [], ◌∷◌, ◌++◌, Option, Some, None, if◌then◌else◌, unwrap_or, ap, sym}
use Rattle.std.specs.Option.{is_some}
use Rattle.std.proofs.lemmas.List.Elements.{All-append, All-cons, All-nil}
use Rattle.med_value.specs.declared.cause.Cause.TheVariants.{UndefinedTable}
use Rattle.med_syntax.specs.QueryTree.{EntryTree}
use Rattle.bind_names.specs.Prelude.{TableShape, place_named, entry_place, entry_causes}
use Rattle.bind_names.specs.declared.table.TableView.{TableView}
use Rattle.med_binder.specs.Binding.{IsEntryOf}
use Rattle.med_binder.specs.declared.bound.BoundEntry.{BoundEntry}

pub entry_unknown : (tables : List TableShape) (e : EntryTree) → place_named tables e.table ≡ None → entry_causes tables e ≡ UndefinedTable ∷ []
entry_unknown tables e h = ap (λ (p : Option ℕ). if is_some p then [] else UndefinedTable ∷ []) h

pub entry_known : (tables : List TableShape) (e : EntryTree) (p : ℕ) → place_named tables e.table ≡ Some p → entry_causes tables e ≡ []
entry_known tables e p h = ap (λ (p : Option ℕ). if is_some p then [] else UndefinedTable ∷ []) h

pub entry_placed : (tables : List TableShape) (e : EntryTree) (p : ℕ) → place_named tables e.table ≡ Some p → p ≡ entry_place tables e
entry_placed tables e p h = sym (ap (λ p. unwrap_or p 0) h)

pub all_and : (tables : List TableView) (xs : List BoundEntry) (x : BoundEntry) → All (IsEntryOf tables) xs → IsEntryOf tables x → All (IsEntryOf tables) (xs ++ x ∷ [])
all_and tables xs x h k = All-append (IsEntryOf tables) xs (x ∷ []) h (All-cons (IsEntryOf tables) x [] k (All-nil (IsEntryOf tables)))
