use Rattle.std.proofs.Common.{◌∙◌, ap}
use Rattle.sqlite_tables.specs.Layouts.{place_in}
use Rattle.sqlite_wrapper.proofs.numbers.number_of.Goals as goal

pub returns : goal.returns
returns c = c.place_of.ensures ∙ ap (λ ls. place_in ls c.args.name.now) c.requires.shapes
