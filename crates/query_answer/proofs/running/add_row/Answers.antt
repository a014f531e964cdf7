use Rattle.std.proofs.Common.{◌∙◌, arith}
use Rattle.std.proofs.lemmas.List.{length-set}
use Rattle.med_value.specs.Datum.{tuple}
use Rattle.query_answer.specs.Running.{HasRoom, IsSmall}
use Rattle.query_answer.proofs.Runnings.{holds_here, rest_stands, row_more}
use Rattle.query_answer.proofs.running.add_row.Goals as goal

pub add-requires-clause-room : goal.add-requires-clause-room
add-requires-clause-room c = holds_here HasRoom c.args.all.now.items c.loop-at.all.items c.loop-at.at c.index_mut.result.now c.requires.room (omega arith) c.loop-at.invariant.rest c.index_mut.ensures.value

pub add-requires-clause-small : goal.add-requires-clause-small
add-requires-clause-small c = holds_here IsSmall c.args.all.now.items c.loop-at.all.items c.loop-at.at c.index_mut.result.now c.requires.small (omega arith) c.loop-at.invariant.rest c.index_mut.ensures.value

pub loop-at-preserved : goal.loop-at-preserved
loop-at-preserved c =
    let old = c.args.all.now.items in
    let now = c.loop-at.all.items in
    record {
      long = length-set now c.loop-at.at c.add.new.running ∙ c.loop-at.invariant.long;
      rest = rest_stands old now c.loop-at.at c.add.new.running c.loop-at.invariant.long (omega arith) c.loop-at.invariant.rest;
      done = row_more c.args.leaves.now (tuple c.args.row.now) old now c.loop-at.at c.index-leaves-at.result c.index_mut.result.now c.add.new.running (omega arith) (omega arith) c.index-leaves-at.is c.index_mut.ensures.value c.loop-at.invariant.rest c.in_ok-add.ensures c.loop-at.invariant.done;
    }
