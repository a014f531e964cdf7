use Rattle.std.proofs.Common.{◌≡◌, ◌<◌, [], ◌∷◌, length, map, ap, sym, ◌∙◌, arith, rules}
use Rattle.fdw_api.specs.Prelude.{Deletes}
use Rattle.list_wrapper.specs.Changes.{change_is}
use Rattle.list_wrapper.proofs.LoneDeletions.{one_taken_out, one_out_rises}
use Rattle.list_wrapper.proofs.changes.apply.Goals as goal

pub returns-in-Some-clause-ok : goal.returns-in-Some-clause-ok
returns-in-Some-clause-ok c =
    let rows = c.args.rows.now.items in
    let cs = c.args.changes.items in
    let at = c.in-Some.at in
    let lone = c.in-Some.ensures in
    let many : c.len.result ≡ length rows = search rules in
    let told : c.deref.result.now ≡ cs = search rules in
    let lt : at < length rows = omega arith in
    let only : map change_is cs ≡ Deletes at ∷ [] = sym (ap (map change_is) told) ∙ lone.2 in
    one_taken_out rows c.remove.new.self.items (map change_is cs) at lt c.remove.ensures only

pub returns-in-Some-clause-rises : goal.returns-in-Some-clause-rises
returns-in-Some-clause-rises c = λ before mark. one_out_rises c.args.rows.now.items c.remove.new.self.items c.in-Some.at c.remove.ensures (before mark)
