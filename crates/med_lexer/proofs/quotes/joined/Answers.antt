use Rattle.std.proofs.Common.{rules, ◌++◌, ap, ◌∙◌}
use Rattle.std.specs.String.{string_bytes}
use Rattle.med_lexer.proofs.Quoting.{loop_more, loop_end, loop_bad, loop_shorter}
use Rattle.med_lexer.proofs.quotes.joined.Goals as goal

pub returns-in_default : goal.returns-in_default
returns-in_default c =
    loop_bad c.args.quote c.args.text.now (string_bytes c.loop-out.out) c.loop-out.rest.now _ _ c.loop-out.invariant.same c.cut_run.ensures c.in_default.ensures

pub returns-in_default-strip : goal.returns-in_default-strip
returns-in_default-strip c =
    loop_end c.args.quote c.args.text.now (string_bytes c.loop-out.out) c.loop-out.rest.now _ _ _ _ (string_bytes c.push_str.new.self) c.loop-out.invariant.same c.cut_run.ensures c.in-Some.ensures c.in_default-strip.ensures c.in_ok-push_str.ensures.bytes

pub loop-out-smaller : goal.loop-out-smaller
loop-out-smaller c = loop_shorter c.args.quote c.loop-out.rest.now _ _ _ _ _ _ c.cut_run.ensures c.in-Some.ensures c.in-Some-strip.ensures

pub loop-out-preserved : goal.loop-out-preserved
loop-out-preserved c = record {
  text = search rules;
  same = loop_more c.args.quote c.args.text.now (string_bytes c.loop-out.out) c.loop-out.rest.now _ _ _ _ _ _ (string_bytes c.push_str-in-loop-out.new.self) c.loop-out.invariant.same c.cut_run.ensures c.in-Some.ensures c.in-Some-strip.ensures
      (c.in_ok-push_str-2.ensures.bytes ∙ ap (λ y. y ++ c.in-Some-strip.again.now) c.in_ok-push_str.ensures.bytes);
}
