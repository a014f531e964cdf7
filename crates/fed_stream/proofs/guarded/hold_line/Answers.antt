use Rattle.std.proofs.Common.{ap, sym, ◌∙◌, take, rules}
use Rattle.fed_stream.specs.Guards.{begins_upper}
use Rattle.fed_stream.proofs.Guards.{shown_by_feed, shown_by_first, shown_by_length}
use Rattle.fed_stream.proofs.guarded.hold_line.Goals as goal

pub returns-then-contains-clause-shown : goal.returns-then-contains-clause-shown
returns-then-contains-clause-shown g c =
    shown_by_feed _ c.reserve.new.self.items (take c.in-Ok-read.count c.read.new.buf) c.extend_from_slice.new.self.items (search rules) (sym c.contains.ensures.value ∙ c.if-contains.true)

pub returns-then-not-begins_upper-clause-shown : goal.returns-then-not-begins_upper-clause-shown
returns-then-not-begins_upper-clause-shown g c = shown_by_first _ c.extend_from_slice.new.self.items (search rules)
    (ap begins_upper (sym c.deref.ensures.value) ∙ sym c.begins_upper.ensures ∙ c.if-not-begins_upper.true)

pub returns-clause-shown : goal.returns-clause-shown
returns-clause-shown g c = shown_by_length _ c.loop-piece.held.items (search rules)
