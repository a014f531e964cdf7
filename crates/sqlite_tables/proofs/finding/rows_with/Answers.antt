use Rattle.std.proofs.Common.{◌≡◌, ◌≢◌, ◌++◌, ◌+◌, ◌<◌, ◌∙◌, [], ◌∷◌, length, get_or, FitsSigned, w64, refl, rules, arith}
use Rattle.std.proofs.lemmas.Int.{to_z-of_z}
use Rattle.sqlite.specs.Held.{state}
use Rattle.med_value.specs.Datum.{datum}
use Rattle.sqlite_tables.specs.Tables.{entries_of}
use Rattle.sqlite_tables.proofs.Settled.{known_after, reads_none, reads_then, sure_first, sure_then, sure_same}
use Rattle.sqlite_tables.proofs.Singles.{found_first, found_further}
use Rattle.sqlite_tables.proofs.finding.rows_with.Goals as goal

pub loop-at-init : goal.loop-at-init
loop-at-init g c =
    let none : c.new-rows.result.items ≡ [] = search rules in
    record {
      idle = c.requires.idle;
      same = λ h. refl;
      few = rw none (omega arith);
      found = λ h.
          let l = c.args.shape.now in
          found_first l (entries_of (state g.S.Store c.args.conn.now).now l) c.args.lookup.now
          (datum c.args.value.now) c.next_place-at.result c.new-rows.result.items (c.requires.is h) c.next_place-at.ensures none;
      reads = reads_none (state g.S.Store c.args.conn.now) c.args.shape.now;
      sure_found = λ h is.
          let l = c.args.shape.now in
          found_first l (entries_of (state g.S.Store c.args.conn.now).now l) c.args.lookup.now
          (datum c.args.value.now) c.next_place-at.result c.new-rows.result.items is c.next_place-at.ensures none;
    }

pub row_of_key-requires-clause-known : goal.row_of_key-requires-clause-known
row_of_key-requires-clause-known g c h =
    known_after (state g.S.Store c.args.conn.now).now (state g.S.Store c.loop-at.conn).now c.args.shape.now (c.loop-at.invariant.same h)
    (c.requires.known h)

pub loop-at-preserved : goal.loop-at-preserved
loop-at-preserved g c =
    let key = c.index.result.now in
    let fits : FitsSigned w64 key = search rules in
    let e = to_z-of_z w64 key fits in
    let keys = c.args.lookup.now.keys.items in
    let key_is : key ≡ get_or keys c.loop-at.at key = c.index.ensures in
    let lt : c.loop-at.at < length keys = search rules in
    let pushed : c.push.new.self.items ≡ c.loop-at.rows.items ++ c.in-Ok.row ∷ [] = search rules in
    let more : length c.push.new.self.items ≡ length c.loop-at.rows.items + 1 = search rules in
    let not_full : length c.loop-at.rows.items ≢ 64 = search rules in
    record {
      idle = c.row_of_key.ensures.idle;
      same = λ h. c.row_of_key.ensures.same h ∙ c.loop-at.invariant.same h;
      few = let few = c.loop-at.invariant.few in omega (arith, few, more, not_full);
      found = λ h.
          let l = c.args.shape.now in
          let read = rw e at (c.in-Ok.ensures.last h) in
          found_further l (state g.S.Store c.args.conn.now).now (state g.S.Store c.loop-at.conn).now c.args.lookup.now
          (datum c.args.value.now) c.loop-at.at c.next_place-at-in-loop-at.result key read.0
          c.loop-at.rows.items c.push.new.self.items c.in-Ok.row (c.loop-at.invariant.same h) (c.requires.shaped h)
          (c.requires.is h) lt key_is read.1 c.next_place-at-in-loop-at.ensures pushed (c.loop-at.invariant.found h);
      reads = reads_then c.loop-at.invariant.reads c.row_of_key.ensures.reads;
      sure_found = λ h is.
          let l = c.args.shape.now in
          let first = c.loop-at.invariant.reads in
          let next = c.row_of_key.ensures.reads in
          let read = rw e at (c.in-Ok.ensures.sure_last (sure_then first next h)) in
          found_further l (state g.S.Store c.args.conn.now).now (state g.S.Store c.loop-at.conn).now c.args.lookup.now
          (datum c.args.value.now) c.loop-at.at c.next_place-at-in-loop-at.result key read.0
          c.loop-at.rows.items c.push.new.self.items c.in-Ok.row
          (sure_same first next h) h.ordered is lt key_is read.1 c.next_place-at-in-loop-at.ensures pushed
          (c.loop-at.invariant.sure_found (sure_first next h) is);
    }

pub returns-in-Err-clause-reads : goal.returns-in-Err-clause-reads
returns-in-Err-clause-reads g c = reads_then c.loop-at.invariant.reads c.row_of_key.ensures.reads

pub returns-in_err-push-in-Ok-clause-reads : goal.returns-in_err-push-in-Ok-clause-reads
returns-in_err-push-in-Ok-clause-reads g c = reads_then c.loop-at.invariant.reads c.row_of_key.ensures.reads
