use Rattle.std.proofs.Common.{◌≡◌, ◌+◌, ◌-◌, ap, sym, ◌∙◌, arith, rules}
use Rattle.list_wrapper.specs.declared.runs.Run.{Run}
use Rattle.list_wrapper.specs.Runs.{before}
use Rattle.list_wrapper.proofs.RunsOfRows.{before_none, end_at}
use Rattle.list_wrapper.proofs.runs.start_of.Goals as goal

pub returns-then-at-eq0 : goal.returns-then-at-eq0
returns-then-at-eq0 c = let none : c.args.at ≡ 0 = search rules in sym (ap (before c.args.runs.now) none ∙ before_none c.args.runs.now)

pub returns-else-at-eq0 : goal.returns-else-at-eq0
returns-else-at-eq0 c =
    let runs = c.args.runs.now in
    let some = c.if-at-eq0.false in
    let within = c.requires.within in
    let next : c.args.at - 1 + 1 ≡ c.args.at = omega arith in
    ap (λ (r : Run). r.end) (sym c.index-runs-at.is) ∙ end_at runs (c.args.at - 1) c.index-runs-at.result c.requires.counted (omega arith) c.index-runs-at.is
    ∙ ap (before runs) next
