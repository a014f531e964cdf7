use Rattle.std.proofs.Common.{◌≤◌, ◌+◌, ◌-◌, ◌&&◌, ◌∙◌, refl, arith}
use Rattle.csv_tables.proofs.RowDrafts.{are_with, were_rows, with_count}
use Rattle.csv_tables.proofs.Planning.{both_told, none_told, told_as}
use Rattle.csv_tables.proofs.rows_draft.RowsDraft.new.Goals.{then-plain, else-plain}
use Rattle.csv_tables.proofs.rows_draft.RowsDraft.new.Goals as goal

pub overflow_add-result : goal.overflow_add-result
overflow_add-result c =
    let r = c.args.rows in
    let m = c.args.middle in
    let order = c.requires.order in
    let within = c.requires.within in
    let le : m.from ≤ r.count = omega arith in
    let n = with_count r m le in
    let few = c.requires.few in
    omega arith

pub invariant_of-result : goal.invariant_of-result
invariant_of-result c =
    let r = c.args.rows in
    let m = c.args.middle in
    let order = c.requires.order in
    let within = c.requires.within in
    let le : m.from ≤ r.count = omega arith in
    let made = are_with r m (m.from + (r.count - m.to) + m.rows.count) c.in-Ok.fields.after c.requires.width le refl c.requires.few c.in-Ok.ensures.whole c.in-Ok.ensures.after in
    record {
      were = were_rows r c.in-Ok.fields.before c.in-Ok.ensures.before;
      are = told_as _ _ (r.plain && m.rows.plain) _ c.in-Ok.fields.after made.are
          (elim c.if-plain.branch [ then-plain w ↦ both_told _ _ _ w.if-plain.true w.result-is | else-plain w ↦ none_told _ _ _ w.if-plain.false (w.result-is ∙ w.if-plain.false) ]);
    }

pub returns-after-plain-clause-after : goal.returns-after-plain-clause-after
returns-after-plain-clause-after c =
    let r = c.args.rows in
    let m = c.args.middle in
    let order = c.requires.order in
    let within = c.requires.within in
    let le : m.from ≤ r.count = omega arith in
    (are_with r m (m.from + (r.count - m.to) + m.rows.count) c.in-Ok.fields.after c.requires.width le refl c.requires.few c.in-Ok.ensures.whole c.in-Ok.ensures.after).records_are
