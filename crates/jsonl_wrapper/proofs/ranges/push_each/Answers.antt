use Rattle.std.proofs.Common.{◌≡◌, ◌∷◌, ◌++◌, ◌∙◌, [], List, ℕ, ap, subst, sym, rules, arith}
use Rattle.std.specs.List.{slice_range}
use Rattle.jsonl_wrapper.specs.Lines.{line_at, IsImage}
use Rattle.jsonl_wrapper.specs.Tables.{lines_in}
use Rattle.std.proofs.lemmas.List.{append_assoc}
use Rattle.jsonl_wrapper.proofs.RangeLaws.{one_of_range}
use Rattle.jsonl_wrapper.proofs.ranges.push_each.Goals as goal

pub loop-at-preserved : goal.loop-at-preserved
loop-at-preserved c = λ lines is.
    let t = c.args.table.now in
    let so_far = slice_range (lines_in t) c.args.from c.loop-at.at in
    let line : c.line_at.result.now ≡ line_at t.content.items c.index.result.now = c.line_at.ensures ∙ ap (λ b. line_at b c.index.result.now) c.deref.ensures.value in
    let more = one_of_range t.content.items t.lines.items c.args.from c.loop-at.at c.index.result.now c.index.result.now (search rules) (omega arith) c.index.ensures in
    subst (IsImage c.push.new.self.content.items c.push.new.self.lines.items)
    (append_assoc lines so_far (c.line_at.result.now ∷ []) ∙ ap (λ (l : List ℕ). lines ++ (so_far ++ l ∷ [])) line ∙ ap (λ (ls : List (List ℕ)). lines ++ ls) (sym more))
    (c.in_ok-push.ensures (lines ++ so_far) (c.loop-at.invariant lines is))
