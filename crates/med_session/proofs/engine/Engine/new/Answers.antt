use Rattle.std.proofs.Common.{◌≡◌, true, rules}
use Rattle.med_session.proofs.engine.Engine.new.Goals as goal

pub returns-clause-sound : goal.returns-clause-sound
returns-clause-sound g c =
    let yes : c.is_user.result ≡ true = search rules in
    rw (c.new-2.ensures.items, c.new-3.ensures.items, c.new-4.ensures.items, c.in-Ok.ensures)
    (c.engines_begin.ensures.sound c.args.owner.now _ (c.is_user.ensures.0 yes) c.in-Ok-closed_sessions.ensures)

pub returns-clause-empty : goal.returns-clause-empty
returns-clause-empty g c =
    rw (c.new-2.ensures.items, c.new-3.ensures.items, c.new-4.ensures.items, c.in-Ok.ensures)
    (c.engines_begin.ensures.agrees c.args.owner.now _ c.in-Ok-closed_sessions.ensures)
