-- The outputs of cores, among which are all that ORDER BY, OFFSET and LIMIT of a query can leave.
use Rattle.std.specs.Prelude.{◌≡◌, List, [], flat_map}
use Rattle.med_query.specs.Query.{Core, Output, Tables, core_faults, core_outputs}
use Rattle.med_query.specs.declared.select.Select.{Select}
use Rattle.query_answer.specs.Ordering.{StandsIn}

-- outputs that stand for those of a core, and for those of several, where no fault may be told
pub record Gives (select : Select) (c : Core) (db : Tables) (outs : List Output) : Type 0 where
  pub no_fault : core_faults c db ≡ []
  pub stands : StandsIn select (core_outputs c db) outs

pub record AllGive (select : Select) (cs : List Core) (db : Tables) (outs : List Output) : Type 0 where
  pub no_fault : flat_map (λ c. core_faults c db) cs ≡ []
  pub stands : StandsIn select (flat_map (λ c. core_outputs c db) cs) outs
