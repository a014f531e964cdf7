use Rattle.std.proofs.Common.{map}
use Rattle.med_value.specs.Datum.{tuple}
use Rattle.med_query.proofs.Telling.{if_ok_then}
use Rattle.query_answer.proofs.Finished.{finishes}
use Rattle.query_answer.proofs.answers.finished.Goals as goal

pub returns : goal.returns
returns c =
    if_ok_then c.shown_page.result _ _ (λ out h. finishes c.args.directions.now c.args.offset c.args.limit c.args.staged.items c.in_ok-ordered.ordered.items (map tuple out.items) c.in_ok-ordered.ensures h) c.shown_page.ensures
