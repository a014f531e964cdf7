-- When a query over the tables of a catalogue may be asked of the boxes of an engine.
use Rattle.std.specs.Prelude.{◌≡◌, ℕ, true, List, map, Option, Some, slice_get}
use Rattle.med_value.specs.declared.cause.Cause.{Cause}
use Rattle.med_syntax.specs.QueryTree.{SelectTree, select}
use Rattle.med_query.specs.Select.{are_safe_cores}
use Rattle.fdw_api.specs.Prelude.{kinds_of, BoxState, IsTableOf, IsSoundBox}
use Rattle.med_binder.specs.Prelude.{entry_place, IsMeant, bound_widths, widths, Attached, ArePlaces, meant_by, shapes}
use Rattle.bind_names.specs.Prelude.{NameCauses, query_scope}
use Rattle.bind_types.specs.Typing.{TypeCauses}
use Rattle.med_binder.specs.declared.bound.BoundQuery.{BoundQuery}
use Rattle.med_exec.specs.Prelude.{BeginsScans, BoxAt, IsReady}
use Rattle.med_catalog.specs.Objects.{TableObject, Objects}
use Rattle.med_exec.specs.BoundCounting.{scans_of}
use Rattle.med_world.specs.Prelude.{ReadsTables, EachBox}

-- each box is sound, and each table of the catalogue is bound in the box of its place, with its columns' types
pub record AreReady (o : Objects) (bound : List Attached) (boxes : List (Option BoxState)) : Type 0 where
  pub sound : EachBox IsSoundBox boxes
  pub tables : (k : ℕ) (t : TableObject) (a : Attached) → slice_get o.tables k ≡ Some t → slice_get bound k ≡ Some a
      → BoxAt boxes a.source (λ s. IsTableOf s a.number (kinds_of t.columns))

-- The bound query is this one over the tables of the catalogue: no cause of names or types stands, its entries have the columns of their
-- tables and are read where these are bound, and no ON of it may fault.
pub record IsBoundAs (o : Objects) (bound : List Attached) (q : SelectTree) (b : BoundQuery) : Type 0 where
  pub names : (c : Cause) → NameCauses (shapes o) (select q) c → ⊥
  pub types : (c : Cause) → TypeCauses (shapes o) (select q) c → ⊥
  pub meant : IsMeant (meant_by o q) b
  pub places : ArePlaces bound (meant_by o q).entries (map entry_place b.entries.items)
  pub widths : bound_widths b ≡ widths (query_scope (shapes o) q)
  pub safe : are_safe_cores b.select.cores.items ≡ true

-- Boxes that are ready for the tables of a catalogue are ready for each query that is bound over them.
abbrev pub BoundIsReady : Type 0
BoundIsReady = (o : Objects) (bound : List Attached) (q : SelectTree) (b : BoundQuery) (boxes : List (Option BoxState))
    → AreReady o bound boxes → IsBoundAs o bound q b → IsReady boxes b

-- One scan for each entry of a bound query is one for each of the tables that it reads.
abbrev pub EntriesAreReadOnce : Type 0
EntriesAreReadOnce = (b : BoundQuery) (old new : List (Option BoxState))
    → BeginsScans (scans_of b) old new → ReadsTables (map entry_place b.entries.items) old new
