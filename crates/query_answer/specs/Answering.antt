-- Which faults a core and a query show over tables, that of their size among them.
use Rattle.std.specs.Prelude.{◌≤◌, List, length, flat_map, All, IsSome, Result, Ok, Err}
use Rattle.std.specs.List.{Any}
use Rattle.med_value.specs.Limits.{group_limit}
use Rattle.med_query.specs.Prelude.{Core, Query, Tables, IsTold, core_faults, kept, IsTooLarge}
use Rattle.query_answer.specs.declared.outputs.AnswerFault.{AnswerFault}
use Rattle.query_answer.specs.declared.outputs.AnswerFault.TheVariants.{Evaluation, TooManyRows}

-- the core groups over no more than 2^62 kept rows
abbrev pub IsSmall : Core → Tables → Type 0
IsSmall c db = IsSome c.group → length (kept c db) ≤ group_limit

-- each core of a query groups over no more
abbrev pub AreSmall : List Core → Tables → Type 0
AreSmall cs db = All (λ c. IsSmall c db) cs

-- a fault that the core shows: one that may be told, or that it is too large
abbrev pub IsCoreFault : AnswerFault → Core → Tables → Type 0
IsCoreFault (Evaluation f) c db = IsTold f (core_faults c db)
IsCoreFault TooManyRows c db = IsTooLarge c db

-- a fault that a query of these cores shows: one that may be told, or that a core is too large
abbrev pub IsShownIn : AnswerFault → List Core → Tables → Type 0
IsShownIn (Evaluation f) cs db = IsTold f (flat_map (λ c. core_faults c db) cs)
IsShownIn TooManyRows cs db = Any (λ c. IsTooLarge c db) cs

abbrev pub IsShownFault : AnswerFault → Query → Tables → Type 0
IsShownFault f q db = IsShownIn f q.cores db

-- a fault that is answered is one that the core, or the query of these cores, shows
abbrev pub CoreShows : {T : Type 0} → Result T AnswerFault → Core → Tables → Type 0
CoreShows (Ok v) c db = Unit {0}
CoreShows (Err f) c db = IsCoreFault f c db

abbrev pub AllShow : {T : Type 0} → Result T AnswerFault → List Core → Tables → Type 0
AllShow (Ok v) cs db = Unit {0}
AllShow (Err f) cs db = IsShownIn f cs db

abbrev pub Shows : {T : Type 0} → Result T AnswerFault → Query → Tables → Type 0
Shows result q db = AllShow result q.cores db
