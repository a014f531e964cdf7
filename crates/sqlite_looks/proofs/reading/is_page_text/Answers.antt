use Rattle.std.proofs.Common.{sym, ◌∙◌}
use Rattle.sqlite_looks.proofs.reading.is_page_text.Goals as goal

pub returns-in-Ok-clause-page : goal.returns-in-Ok-clause-page
returns-in-Ok-clause-page c = λ holds.
    c.looks_are_meanings.ensures.page c.args.schema.now c.args.text.now c.args.tree c.args.places.now c.args.size
    (sym c.in-Ok.ensures ∙ holds)
