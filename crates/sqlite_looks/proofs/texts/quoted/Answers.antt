use Rattle.std.proofs.Common.{rules, arith, Some, None}
use Rattle.std.specs.Prelude.{string_bytes}
use Rattle.std.proofs.lemmas.Str.Pattern.{split_once_first}
use Rattle.sqlite_looks.proofs.Quoting.{next, whole}
use Rattle.sqlite_looks.proofs.texts.quoted.Goals as goal

pub loop-plain-preserved : goal.loop-plain-preserved
loop-plain-preserved c =
    let f = split_once_first 34 c.loop-plain.rest.now (Some (c.in-Some.plain, c.in-Some.after)) c.in-Some.ensures.cases (omega arith) in
    record {
      utf8 = search rules;
      same = next (string_bytes c.loop-plain.text) (string_bytes c.push_str.new.self) (string_bytes c.push_str-in-Some.new.self)
          c.loop-plain.rest.now c.in-Some.plain.now c.in-Some.after.now _ f.0 f.1 f.2 c.loop-plain.invariant.same
          c.in_ok-push_str.ensures.bytes c.in_ok-push_str-2.ensures.bytes;
    }

pub returns : goal.returns
returns c =
    let p = split_once_first 34 c.loop-plain.rest.now None c.in_default.ensures.cases (omega arith) in
    whole (string_bytes c.loop-plain.text) (string_bytes c.push_str-2.new.self) (string_bytes c.push_str-3.new.self) c.loop-plain.rest.now
    c.args.name.now p c.loop-plain.invariant.same c.in_ok-push_str-3.ensures.bytes c.in_ok-push_str-4.ensures.bytes
