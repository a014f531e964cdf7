-- What a query means over the tables of a catalogue, and the causes of names, rights and types that stand against it there.
use Rattle.std.specs.Prelude.{◌≡◌, ◌⊎◌, Contains}
use Rattle.med_value.specs.declared.cause.Cause.{Cause}
use Rattle.med_value.specs.declared.cause.Cause.TheVariants.{OutOfMemory}
use Rattle.med_syntax.specs.Prelude.{Name, SelectTree}
use Rattle.bind_names.specs.Prelude.{Meant, meant_in, select_name_causes}
use Rattle.bind_types.specs.Typing.{select_type_causes}
use Rattle.med_catalog.specs.Objects.{Objects}
use Rattle.med_binder.specs.Tables.{shapes}
use Rattle.med_binder.specs.Barred.{query_right_causes}

-- the query in terms of places, its entries being the places of its tables in the catalogue (SQL:2016, <query specification>)
abbrev pub meant_by : Objects → SelectTree → Meant
meant_by o q = meant_in (shapes o) q

-- Phase 3, names and rights
abbrev pub QueryNames : Objects → Name → SelectTree → Cause → Type 0
QueryNames o user q c = Contains (select_name_causes (shapes o) q) c ⊎ Contains (query_right_causes o user q) c

-- Phase 4, types
abbrev pub QueryTypes : Objects → SelectTree → Cause → Type 0
QueryTypes o q c = Contains (select_type_causes (shapes o) q) c

-- no cause of names, rights or types stands
pub record IsBindable (o : Objects) (user : Name) (q : SelectTree) : Type 0 where
  pub names : (c : Cause) → QueryNames o user q c → ⊥
  pub types : (c : Cause) → QueryTypes o q c → ⊥

-- why a query is not bound: of types only where none of names or rights stands
abbrev pub NotBound : Objects → Name → SelectTree → Cause → Type 0
NotBound o user q c = (c ≡ OutOfMemory) ⊎ (QueryNames o user q c ⊎ (QueryTypes o q c × ((d : Cause) → QueryNames o user q d → ⊥)))
