-- What a statement that was run did, part by part.
use Rattle.std.proofs.Common.{◌≡◌, ◌≢◌, ◌⊎◌, inl, inr, ℕ, List, [], ◌∷◌, Ok, Err, Result, sym, ap, subst, ◌∙◌}
use Rattle.std.specs.List.{AllByRecursion}
use Rattle.sqlite.specs.Effect.{Database}
use Rattle.sqlite.specs.Edit.{Edit}
use Rattle.sqlite.specs.Table.{Table}
use Rattle.sqlite.specs.Order.{Row}
use Rattle.sqlite.specs.State.{State, Executes, ExecutesIn}
use Rattle.sqlite_schema.specs.declared.schema.Keys.TheVariants.{Enforced}
use Rattle.sqlite_rules.specs.Edit.{Applies}
use Rattle.sqlite_rules.specs.Lists.{Has}
use Rattle.sqlite_rules.proofs.ListLemmas.{has_got}
use Rattle.sqlite_writes.specs.Changes.{KeepsOthers}
use Rattle.sqlite_tables.specs.Texts.{IsUnread}

pub went : {B E R : Type 0} {b : B} {Stops : E → Type 0} → ((stop : E) × Stops stop × (Ok b ≡ Err stop)) ⊎ R → R
went (inl stopped) = absurd (let e = stopped.2 in cc)
went (inr on) = on

pub same_value : {B E : Type 0} {a b : B} → ◌≡◌ {A = Result B E} (Ok a) (Ok b) → a ≡ b
same_value e = cc

all_has : {X : Type 0} (P : X → Type 0) (xs : List X) (x : X) → AllByRecursion P xs → Has xs x → P x
all_has P [] x all h = absurd h
all_has P (y ∷ ys) x all (inl e) = subst P (sym e) all.0
all_has P (y ∷ ys) x all (inr h) = all_has P ys x all.1 h

-- an edit of one table leaves the others of the schema alone
pub others_kept : (old new : Database) (table : Table) (tree : ℕ) (edit : Edit) → edit.table ≡ table → table.tree ≡ tree
    → Applies old.schema Enforced old.trees edit new.trees → KeepsOthers old new tree
others_kept old new table tree edit at is applied place other here apart =
    let same : edit.table.tree ≡ tree = ap (λ (t : Table). t.tree) at ∙ is in
    all_has (λ t. t.tree ≢ edit.table.tree → new.trees t.tree ≡ old.trees t.tree) old.schema.tables other applied.tables
    (has_got old.schema.tables place other here) (λ e. apart (e ∙ same))

-- a text that is not understood is not run
pub not_run : (text : List ℕ) (params : Row) (old new : State) (count : ℕ) → IsUnread old.now.schema text
    → Executes text params old new (Ok count) → ⊥
unfolding ExecutesIn
not_run text params old new count bad h = let e = sym h.1.is ∙ bad.1 in absurd cc
