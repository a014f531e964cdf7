use Rattle.std.proofs.Common.{◌∙◌, ap, List, [], map}
use Rattle.fdw_api.specs.Kinds.{Column, column_of, kinds_of}
use Rattle.tab_tests.specs.TabForms.{tab_objections}
use Rattle.tab_tests.proofs.TabReads.{ok_gives}
use Rattle.tab_tests.proofs.writes.read_parts.Goals as goal

pub read-requires-clause-no_objection : goal.read-requires-clause-no_objection
read-requires-clause-no_objection c = ap (λ (cs : List Column). tab_objections cs []) (ap (map column_of) c.deref.ensures.value ∙ c.in_ok-columns.ensures)

pub returns : goal.returns
returns c =
    ok_gives c.read.result _ _ (λ t r. r.kinds_are ∙ ap kinds_of (ap (map column_of) c.deref.ensures.value ∙ c.in_ok-columns.ensures)) c.read.ensures.ok
