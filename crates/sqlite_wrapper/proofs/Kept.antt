-- What a database keeps where it is as before, and the numbers of its tables.
use Rattle.std.proofs.Common.{◌≡◌, ℕ, ◌<◌, Bool, true, List, Option, Some, None, IsSome, length, nat_lt, refl, sym, subst, arith}
use Rattle.sqlite.specs.Effect.{Database}
use Rattle.fdw_api.specs.State.{Staging}
use Rattle.sqlite_tables.specs.Layouts.{layout_at, layout_count}
use Rattle.sqlite_writes.specs.Writable.{AreApart, IsWritable}
use Rattle.sqlite_wrapper.specs.Changes.{names_rows}
use Rattle.sqlite_wrapper.specs.Counts.{AreCounts}

-- a place among as many marks as there are layouts is the number of one
pub within_count : (t : ℕ) (marks : List Bool) → length marks ≡ layout_count → t < length marks → nat_lt t layout_count ≡ true
within_count t marks each lt = grind (arith, each, lt)

pub some_there : {A : Type 0} (o : Option A) (x : A) → o ≡ Some x → IsSome o
some_there None x e = absurd cc
some_there (Some y) x e = refl

pub writable_after : (honest : Bool) (db after : Database) → (honest ≡ true → after ≡ db)
    → ((t : ℕ) → honest ≡ true → ∥ IsWritable db.schema (layout_at t) ∥₁)
    → (t : ℕ) → honest ≡ true → ∥ IsWritable after.schema (layout_at t) ∥₁
writable_after honest db after same writable t h = subst (λ (d : Database). ∥ IsWritable d.schema (layout_at t) ∥₁) (sym (same h))
    (writable t h)

pub apart_after : (honest : Bool) (db after : Database) → (honest ≡ true → after ≡ db) → (honest ≡ true → AreApart db.schema)
    → honest ≡ true → AreApart after.schema
apart_after honest db after same apart h = subst (λ (d : Database). AreApart d.schema) (sym (same h)) (apart h)

pub there_after : (honest : Bool) (db after : Database) (staged : Option Staging) → (honest ≡ true → after ≡ db)
    → (honest ≡ true → names_rows db staged ≡ true)
    → honest ≡ true → names_rows after staged ≡ true
there_after honest db after staged same there h = subst (λ (d : Database). names_rows d staged ≡ true) (sym (same h)) (there h)

-- the numbers of rows that are held are as good where the database is as before
pub counts_after : (honest : Bool) (db after : Database) (counts : List (Option ℕ)) → (honest ≡ true → after ≡ db)
    → (honest ≡ true → AreCounts db counts)
    → honest ≡ true → AreCounts after counts
counts_after honest db after counts same are h = subst (λ (d : Database). AreCounts d counts) (sym (same h)) (are h)
