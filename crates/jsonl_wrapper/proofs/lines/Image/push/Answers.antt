use Rattle.std.proofs.Common.{rules}
use Rattle.jsonl_wrapper.proofs.LineLaws.{one_more}
use Rattle.jsonl_wrapper.proofs.lines.Image.push.Goals as goal

pub returns : goal.returns
returns c = λ lines is.
    one_more c.args.self.now.content.items c.args.self.now.lines.items lines c.args.line.now c.push.new.self.items (record { start = c.len-start.result; end = c.len-end.result }) c.push-2.new.self.items is
    (search rules) (search rules) (search rules) (search rules)
