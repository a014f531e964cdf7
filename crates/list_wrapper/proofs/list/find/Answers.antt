use Rattle.std.proofs.Common.{◌∙◌, sym, ap, refl, length, rules, arith, option_map}
use Rattle.std.proofs.lemmas.Option.{slice_get_read}
use Rattle.list_wrapper.specs.Scans.{stored}
use Rattle.list_wrapper.proofs.Names.{entry_here, entry_past}
use Rattle.list_wrapper.proofs.list.find.Goals as goal

pub returns-then-eq-clause-entry : goal.returns-then-eq-clause-entry
returns-then-eq-clause-entry c =
    let at = slice_get_read c.args.tables.now.items (length c.args.tables.now.items) c.loop-at.at c.index.result.now refl (omega arith) c.index.ensures in
    c.loop-at.invariant ∙ entry_here c.args.tables.now.items c.args.name.now c.loop-at.at c.index.result.now (omega arith) c.index.ensures (search rules) ∙ sym (ap (option_map stored) at)

pub returns-then-eq-clause-named : goal.returns-then-eq-clause-named
returns-then-eq-clause-named c =
    (c.index.result.now, slice_get_read c.args.tables.now.items (length c.args.tables.now.items) c.loop-at.at c.index.result.now refl (omega arith) c.index.ensures, search rules)

pub loop-at-preserved : goal.loop-at-preserved
loop-at-preserved c =
    c.loop-at.invariant ∙ entry_past c.args.tables.now.items c.args.name.now c.loop-at.at c.index.result.now (omega arith) c.index.ensures (search rules)
