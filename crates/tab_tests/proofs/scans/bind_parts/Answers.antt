use Rattle.std.proofs.Common.{map, []}
use Rattle.fdw_api.specs.Kinds.{column_of}
use Rattle.tab_tests.proofs.Calls.{bound_is_table, ok_gives}
use Rattle.tab_tests.proofs.scans.bind_parts.Goals as goal

pub returns : goal.returns
returns g c =
    ok_gives c.bind.result _ _
    (λ t binds. bound_is_table (g.W.Wrapper.meaning c.args.source.now) (g.W.Wrapper.meaning c.bind.new.self) _ (map column_of c.args.columns.now) [] t.number binds c.requires.kinds)
    c.bind.ensures.ok
