use Rattle.std.proofs.Common.{◌∙◌, sym, refl}
use Rattle.csv_tables.proofs.Gathering.{gathers_range}
use Rattle.csv_tables.proofs.middle.with_kept.Goals.{then-plain, else-plain}
use Rattle.csv_tables.proofs.middle.with_kept.Goals as goal

pub returns-clause-rows : goal.returns-clause-rows
returns-clause-rows c = λ done was.
    gathers_range c.args.rows.now done c.args.gathered _ c.args.from c.args.to was c.requires.order c.requires.within c.in_ok-fields.ensures.fields c.in_ok-fields.ensures.partial refl
    (λ is. elim c.if-plain.branch [
      | then-plain w ↦ (w.if-plain.true, sym w.result-is ∙ is)
      | else-plain w ↦ absurd (let no = w.result-is in cc)
    ])
