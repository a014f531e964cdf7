-- A list takes each table that the catalogue lets pass.
use Rattle.std.proofs.Common.{◌≡◌, false, ◌++◌, [], ap, ◌∙◌}
use Rattle.fdw_api.specs.Prelude.{Kind, BoxState}
use Rattle.med_syntax.specs.DdlTree.{TableTree}
use Rattle.med_catalog.specs.Prelude.{table_settings, column_settings, are_options_unknown}
use Rattle.med_catalog.specs.declared.kind.SourceKind.TheVariants.{List as Lists}
use Rattle.med_world.specs.Engine.{TakesAs}
use Rattle.list_wrapper.specs.Lists.{list_kind, list_objections}
use Rattle.source_kinds.proofs.Rows.{options_known}

-- a list is told nothing of its tables
abbrev pub IsToldNothing : Type 0
IsToldNothing = (t : TableTree) → are_options_unknown Lists t.options t.columns ≡ false → table_settings Lists t.options ++ column_settings 1 t.columns ≡ []

pub list_takes : IsToldNothing → (s : BoxState) → s.nature.kind ≡ list_kind → TakesAs Lists s
list_takes told s is o t columns declared none =
    ap (λ (k : Kind). k.objections columns (table_settings Lists t.options ++ column_settings 1 t.columns)) is
    ∙ ap list_objections (told t (options_known o Lists t none))
