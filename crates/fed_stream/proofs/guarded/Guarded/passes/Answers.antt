use Rattle.std.proofs.Common.{List, ℕ, sym, ap, ◌∙◌}
use Rattle.fed_stream.specs.Guards.{first_line, is_request_line}
use Rattle.fed_stream.proofs.Guards.{begins_kept, begins_refused, begins_passed}
use Rattle.fed_stream.proofs.guarded.Guarded.passes.Goals as goal

pub returns-in-Err-clause-kept : goal.returns-in-Err-clause-kept
returns-in-Err-clause-kept g c =
    begins_kept c.args.self.now.stage c.in-Begins.is c.args.self.now.held.items c.hold_line.new.held.items c.args.self.now.given _ _ c.in-Err.ensures.kept

pub returns-then-begins_with_request-clause-kept : goal.returns-then-begins_with_request-clause-kept
returns-then-begins_with_request-clause-kept g c =
    begins_refused c.args.self.now.stage c.in-Begins.is c.args.self.now.held.items c.hold_line.new.held.items c.args.self.now.given _ _ c.in-Ok.ensures.kept c.in-Ok.ensures.shown
    (ap (λ (l : List ℕ). is_request_line (first_line l)) (sym c.deref.ensures.value) ∙ sym c.begins_with_request.ensures ∙ c.if-begins_with_request.true)

pub returns-clause-kept : goal.returns-clause-kept
returns-clause-kept g c =
    begins_passed c.args.self.now.stage c.in-Begins.is c.args.self.now.held.items c.hold_line.new.held.items c.args.self.now.given _ _ c.in-Ok.ensures.kept c.in-Ok.ensures.shown
    (ap (λ (l : List ℕ). is_request_line (first_line l)) (sym c.deref.ensures.value) ∙ sym c.begins_with_request.ensures ∙ c.if-begins_with_request.false)
