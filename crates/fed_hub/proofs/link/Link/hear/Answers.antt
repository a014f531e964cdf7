use Rattle.std.proofs.Common.{◌≡◌, ◌++◌, [], take, true, false, refl, sym, ◌∙◌, arith}
use Rattle.std.proofs.lemmas.Grind.{common_steps}
use Rattle.fed_hub.specs.Boxes.{unread_in}
use Rattle.fed_hub.proofs.Links.{heard, heard_last, nothing_read}
use Rattle.fed_hub.proofs.link.Link.hear.Goals as goal

pub returns-in-Ok-put : goal.returns-in-Ok-put
returns-in-Ok-put g c = λ taken part h.
    let added : unread_in c.put.new.self ≡ unread_in c.args.self.now.inbox ++ take c.in-Ok.count c.read_now.new.piece = grind (
      arith,
      common_steps,
      c.put.ensures.ok,
    ) in
    heard _ _ taken c.args.self.now _ _ part c.in-Ok.ensures.bytes.0 c.in-Ok.ensures.kept added refl refl (λ e.
    (let no : true ≡ false = sym e ∙ c.if-self.false in absurd cc)) h

pub returns-in-Err : goal.returns-in-Err
returns-in-Err g c = λ taken part h. heard_last _ _ taken c.args.self.now _ _ part c.in-Ok.ensures.bytes.0 c.in-Ok.ensures.kept h

pub returns-in-Err-Failed : goal.returns-in-Err-Failed
returns-in-Err-Failed g c = λ taken part h. heard_last _ _ taken c.args.self.now _ [] part
    (nothing_read _ _ c.in-Err-Failed.ensures.bytes) c.in-Err-Failed.ensures.kept h
