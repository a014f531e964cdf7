use Rattle.std.proofs.Common.{◌≡◌, ◌<◌, ◌+◌, ◌-◌, ◌/◌, true, false, length, sym, ◌∙◌, to_z, of_z, w64, arith}
use Rattle.std.proofs.lemmas.Int.{to_z-of_z}
use Rattle.med_value.specs.Datum.{cell}
use Rattle.wrapper_parts.specs.Halves.{is_under}
use Rattle.list_wrapper.specs.Scans.{keys_of}
use Rattle.wrapper_parts.proofs.Halving.{under_before, over_behind}
use Rattle.list_wrapper.proofs.RisingLists.{keys_length}
use Rattle.list_wrapper.proofs.spans.first_at_least.Goals as goal

pub loop-first-preserved-then-key_under : goal.loop-first-preserved-then-key_under
loop-first-preserved-then-key_under c =
    let rows = c.args.rows.now.items in
    let cells = keys_of rows in
    let key = to_z w64 (of_z w64 c.args.key) in
    let many = keys_length rows in
    let test = c.loop-first-test.true in
    let within = c.loop-first.invariant.within in
    let middle = c.loop-first.first + (c.loop-first.end - c.loop-first.first) / 2 in
    let less : middle < length rows = omega arith in
    let under : is_under key (cell cells middle) ≡ true = sym c.key_under.ensures ∙ c.if-key_under.true in
    record {
      ordered = omega arith;
      within = within;
      before = λ k lt. under_before cells key k middle c.requires (omega arith) (omega arith) under;
      behind = c.loop-first.invariant.behind;
    }

pub loop-first-preserved : goal.loop-first-preserved
loop-first-preserved c =
    let rows = c.args.rows.now.items in
    let cells = keys_of rows in
    let key = to_z w64 (of_z w64 c.args.key) in
    let many = keys_length rows in
    let test = c.loop-first-test.true in
    let within = c.loop-first.invariant.within in
    let middle = c.loop-first.first + (c.loop-first.end - c.loop-first.first) / 2 in
    let less : middle < length rows = omega arith in
    let over : is_under key (cell cells middle) ≡ false = sym c.key_under.ensures ∙ c.if-key_under.false in
    record {
      ordered = omega arith;
      within = omega arith;
      before = c.loop-first.invariant.before;
      behind = λ k le lt. over_behind cells key middle k c.requires le (omega arith) over;
    }

pub returns : goal.returns
returns c =
    let many = keys_length c.args.rows.now.items in
    let test = c.loop-first-test.false in
    let ordered = c.loop-first.invariant.ordered in
    let within = c.loop-first.invariant.within in
    let is = to_z-of_z w64 c.args.key c.ranges.key in
    record {
      within = omega arith;
      before = rw is at c.loop-first.invariant.before;
      behind = λ k le lt. rw is at (c.loop-first.invariant.behind k (omega arith) (omega arith));
    }
