use Rattle.std.proofs.Common.{rules, sym, ◌∙◌}
use Rattle.std.specs.Str.{chars}
use Rattle.tri_expr.specs.Like.{pieces}
use Rattle.tri_expr.proofs.Reaching.{found, not_here, goes_on, waits_shorter}
use Rattle.tri_expr.proofs.Searching.{onward}
use Rattle.tri_expr.proofs.like.seek_first.Goals as goal

pub returns-in-AtRun : goal.returns-in-AtRun
returns-in-AtRun c =
    let ps = pieces (chars c.args.pattern.now) in
    let later = pieces (chars c.in-AtRun.later.now) in
    let go = goes_on ps later (chars c.in-Some.place.now) (chars c.in-AtRun.after.now) c.in-AtRun.ensures in
    (sym (go ∙ c.in-Some.ensures.0 ∙ c.loop-place.invariant.means.0), waits_shorter ps later (chars c.in-Some.place.now) (chars c.in-AtRun.after.now) c.in-AtRun.ensures)

pub returns-then-found : goal.returns-then-found
returns-then-found c =
    let ps = pieces (chars c.args.pattern.now) in
    sym (c.in-Some.ensures.0 ∙ c.loop-place.invariant.means.0) ∙ found ps (chars c.in-Some.place.now) (search rules)

pub loop-place-preserved : goal.loop-place-preserved
loop-place-preserved c =
    let ps = pieces (chars c.args.pattern.now) in
    let here = not_here ps (chars c.in-Some.place.now) (chars c.in-Some-split_char.behind.now) c.in-Some-split_char.field-0-0 c.in-Some-split_char.ensures (search rules) in
    record {
      means = (here ∙ c.in-Some.ensures.0 ∙ c.loop-place.invariant.means.0, onward c.in-Some-split_char.field-0-0 (chars c.in-Some.place.now) (chars c.in-Some-split_char.behind.now) (chars c.loop-place.left.now) (chars c.args.text.now) c.in-Some-split_char.ensures c.in-Some.ensures.1 c.loop-place.invariant.means.1);
      left_text = search rules;
    }
