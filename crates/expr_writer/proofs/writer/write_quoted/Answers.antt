use Rattle.std.proofs.Common.{rules, Some, None}
use Rattle.std.specs.String.{string_bytes}
use Rattle.std.proofs.lemmas.Str.Pattern.{split_once_first}
use Rattle.expr_writer.proofs.ExprQuoting.{quote_next, quote_end, with_quote}
use Rattle.expr_writer.proofs.writer.write_quoted.Goals as goal

pub loop-plain-preserved : goal.loop-plain-preserved
loop-plain-preserved c =
    let f = split_once_first c.args.quote c.loop-plain.rest.now (Some (c.in-Some.plain, c.in-Some.after)) c.in-Some.ensures.cases c.requires.ascii in
    record {
      utf8 = search rules;
      same = quote_next c.args.quote (string_bytes c.loop-plain.out) (string_bytes c.push_str.new.self) (string_bytes c.push-in-Some.new.self) (string_bytes c.push-in-Some-2.new.self) c.loop-plain.rest.now c.in-Some.plain.now c.in-Some.after.now _
          f.0 f.1 f.2 c.loop-plain.invariant.same c.in_ok-push_str.ensures.bytes
          (with_quote _ _ _ c.args.quote c.in_ok-push-3.ensures.bytes (c.in_ok-push-3.ensures.ascii c.requires.ascii)) (with_quote _ _ _ c.args.quote c.in_ok-push-4.ensures.bytes (c.in_ok-push-4.ensures.ascii c.requires.ascii));
    }

pub returns : goal.returns
returns c =
    let p = split_once_first c.args.quote c.loop-plain.rest.now None c.in_default.ensures.cases c.requires.ascii in
    quote_end c.args.quote c.push-3.result _ (string_bytes c.loop-plain.out) (string_bytes c.push_str-2.new.self) (string_bytes c.push-3.new.self) c.loop-plain.rest.now (string_bytes c.args.out.now) c.args.text.now
    c.push-3.ensures.bytes (c.push-3.ensures.ascii c.requires.ascii) c.in_ok-push_str-2.ensures.bytes p c.loop-plain.invariant.same
