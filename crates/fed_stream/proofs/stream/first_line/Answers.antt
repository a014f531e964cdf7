use Rattle.std.proofs.Common.{◌≡◌, ◌+◌, length, MatchOption, refl, subst}
use Rattle.fed_stream.proofs.stream.first_line.Goals as goal

pub returns-in-Some-clause-line : goal.returns-in-Some-clause-line
returns-in-Some-clause-line c =
    subst (λ found. MatchOption found (c.in-Some.place + 1 ≡ length c.args.piece.now) (λ place. c.in-Some.place + 1 ≡ place + 1)) c.in-Some.ensures.place refl

pub returns-in-None-clause-line : goal.returns-in-None-clause-line
returns-in-None-clause-line c =
    subst (λ found. MatchOption found (length c.args.piece.now ≡ length c.args.piece.now) (λ place. length c.args.piece.now ≡ place + 1)) c.in-None.ensures.place refl
