-- What is so of a table that may be written.
use Rattle.std.proofs.Common.{
  ◌≡◌,
  [],
  length,
  Bool,
  true,
  false,
  not,
  Option,
  Some,
  None,
  refl,
  ℕ,
}
use Rattle.std.specs.Prelude.{if◌then◌else◌, string_bytes}
use Rattle.sqlite.specs.Schema.{Schema}
use Rattle.sqlite_schema.specs.declared.schema.Table.{Table}
use Rattle.sqlite_looks.specs.declared.shapes.ReadOnly.{ReadOnly}
use Rattle.sqlite_looks.specs.declared.shapes.ReadOnly.TheVariants.{Counted, Stamped, Referenced, OtherMeaning}
use Rattle.sqlite_looks.specs.declared.shapes.Texts.{Texts}
use Rattle.sqlite_looks.specs.Free.{is_free}
use Rattle.sqlite_looks.specs.Looks.{is_empty, means_delete, means_insert}
use Rattle.sqlite_looks.specs.Shapes.{barred, first, can_change, cells_of, read_only}
use Rattle.sqlite_looks.proofs.Meant.{both, empty_is}

four : (a b c d : Bool)
    → first (if a then Some Counted else (if not b then Some Stamped else (if not c then Some Referenced else None)))
    (if d then None else Some OtherMeaning) ≡ None
    → (a ≡ false) × (b ≡ true) × (c ≡ true) × (d ≡ true)
four false true true true e = (refl, refl, refl, refl)
four false true true false e = absurd (cc)
four false true false d e = absurd (cc)
four false false c d e = absurd (cc)
four true b c d e = absurd (cc)

module _ (schema : Schema) (at : ℕ) (table : Table) (texts : Texts) (holds : read_only schema at table texts ≡ None) where
  all : (table.is_counted ≡ false) × (is_empty table.stamps.terms ≡ true) × (is_free schema table.tree ≡ true)
      × (can_change schema at table.tree (cells_of table) texts ≡ true)
  all = four table.is_counted (is_empty table.stamps.terms) (is_free schema table.tree)
      (can_change schema at table.tree (cells_of table) texts) holds

  pub not_counted : table.is_counted ≡ false
  not_counted = all.0

  pub not_stamped : table.stamps.terms ≡ []
  not_stamped = empty_is table.stamps.terms all.1

  pub free : is_free schema table.tree ≡ true
  free = all.2

  changes : (means_delete schema (string_bytes texts.delete) at table.tree ≡ true)
      × (means_insert schema (string_bytes texts.insert) at (cells_of table) (length (cells_of table)) ≡ true)
  changes = both (means_delete schema (string_bytes texts.delete) at table.tree)
      (means_insert schema (string_bytes texts.insert) at (cells_of table) (length (cells_of table))) all.3

  pub deletes : means_delete schema (string_bytes texts.delete) at table.tree ≡ true
  deletes = changes.0

  pub inserts : means_insert schema (string_bytes texts.insert) at (cells_of table) (length (cells_of table)) ≡ true
  inserts = changes.1
