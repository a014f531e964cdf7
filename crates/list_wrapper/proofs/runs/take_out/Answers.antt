use Rattle.std.proofs.Common.{◌≡◌, ◌∙◌, [], length, sym, ap, arith, rules}
use Rattle.list_wrapper.specs.Stay.{stay}
use Rattle.list_wrapper.proofs.TakingOut.{stay_none, no_marks, keeps_on, drops_on}
use Rattle.list_wrapper.proofs.runs.take_out.Goals.{then-not-is_gone, else-not-is_gone}
use Rattle.list_wrapper.proofs.runs.take_out.Goals as goal

pub returns-then-is_empty : goal.returns-then-is_empty
returns-then-is_empty c =
    let n : length c.args.gone.now ≡ 0 = search rules in
    let e : c.args.gone.now ≡ [] = no_marks c.args.gone.now n in
    sym (stay_none c.args.rows.now.items) ∙ sym (ap (stay c.args.rows.now.items) e)

pub loop-at-preserved : goal.loop-at-preserved
loop-at-preserved c = elim c.if-not-is_gone.branch [
  | then-not-is_gone w ↦
      rw (w.rows-is, w.kept-is) record {
        behind = (let b = c.loop-at.invariant.behind in omega arith);
        same = keeps_on c.loop-at.rows.items w.swap.new.self.items _ c.args.gone.now c.loop-at.kept c.loop-at.at c.loop-at.invariant.behind (search rules) (search rules) w.swap.ensures.by_index c.loop-at.invariant.same;
      }
  | else-not-is_gone w ↦
      rw (w.rows-is, w.kept-is) record {
        behind = (let b = c.loop-at.invariant.behind in omega arith);
        same = drops_on c.loop-at.rows.items _ c.args.gone.now c.loop-at.kept c.loop-at.at (search rules) (search rules) c.loop-at.invariant.same;
      }
]
