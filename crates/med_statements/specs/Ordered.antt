-- A bound query in the order in which its entries are joined: it can run over the wrappers as it could before, and what it answers and
-- shows over them is what the query does.
use Rattle.std.specs.Prelude.{List, map, Option}
use Rattle.med_value.specs.Datum.{Tuple}
use Rattle.med_query.specs.Select.{query_of}
use Rattle.fdw_api.specs.State.{BoxState}
use Rattle.fdw_api.specs.declared.interface.Fault.{Fault}
use Rattle.med_binder.specs.Prelude.{entry_place}
use Rattle.med_binder.specs.declared.bound.BoundQuery.{BoundQuery}
use Rattle.bound_order.specs.Ordered.{IsOrdered}
use Rattle.med_exec.specs.Prelude.{IsReady, RunAnswers, BeginsScans}
use Rattle.med_exec.specs.BoundCounting.{scans_of}
use Rattle.med_exec.specs.Running.{Stops}

abbrev pub OrderIsReady : Type 0
OrderIsReady = (boxes : List (Option BoxState)) (bound planned : BoundQuery) → IsReady boxes bound → IsOrdered bound planned
    → IsReady boxes planned

-- what it answers is an answer, and shows no cause
abbrev pub OrderAnswers : Type 0
OrderAnswers = (boxes : List (Option BoxState)) (bound planned : BoundQuery) (rows : List Tuple) → IsReady boxes bound
    → IsOrdered bound planned
    → RunAnswers (query_of planned.select) (map entry_place planned.entries.items) boxes rows
    → RunAnswers (query_of bound.select) (map entry_place bound.entries.items) boxes rows

-- why it stops is why the query does
abbrev pub OrderStops : Type 0
OrderStops = (old new : List (Option BoxState)) (bound planned : BoundQuery) (fault : Fault) → IsReady old bound → IsOrdered bound planned
    → Stops (query_of planned.select) (map entry_place planned.entries.items) fault old new
    → Stops (query_of bound.select) (map entry_place bound.entries.items) fault old new

-- it begins the same scans
abbrev pub OrderBegins : Type 0
OrderBegins = (boxes old new : List (Option BoxState)) (bound planned : BoundQuery) → IsReady boxes bound → IsOrdered bound planned
    → BeginsScans (scans_of planned) old new → BeginsScans (scans_of bound) old new
