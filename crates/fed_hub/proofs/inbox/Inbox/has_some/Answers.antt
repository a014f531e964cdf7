use Rattle.std.proofs.Common.{◌≡◌, Bool, true, false, not, refl}
use Rattle.session_wire.proofs.FrontOfLine.{front_is_rest}
use Rattle.fed_hub.proofs.inbox.Inbox.has_some.Goals as goal

true_of : (b : Bool) → not b ≡ false → b ≡ true
true_of true e = refl
true_of false e = absurd cc

pub returns : goal.returns
returns c = λ e. front_is_rest _ (c.args.self.now.front (true_of _ e))
