use Rattle.std.proofs.Common.{refl, [], subst, Bool, ◌∷◌}
use Rattle.pushdown.proofs.Gives.{runs_give}
use Rattle.pushdown.proofs.Kept.{where_parted}
use Rattle.pushdown.proofs.Exist.{runs_exist, rests_exist}
use Rattle.pushdown.specs.Loops.{Loop, Runs, levels, entries}
use Rattle.pushdown.proofs.loop_laws.runs_are_answers.Goals as goal

pub returns-clause-answers : goal.returns-clause-answers
returns-clause-answers c = λ ss W splits wide parted given r. rw (where_parted (entries ss) wide W 0 [] refl parted) (runs_give 0 ss splits wide [] given refl r)

pub returns-clause-exist : goal.returns-clause-exist
returns-clause-exist c = λ ss offered x. runs_exist ss offered x

pub returns-clause-rests : goal.returns-clause-rests
returns-clause-rests c = λ ss offered rest found ys. rests_exist rest found ss offered ys

pub returns-clause-starts : goal.returns-clause-starts
returns-clause-starts c = λ s ss W splits wide parted rest found fresh coming given r.
    rw (where_parted (entries (s ∷ ss)) wide W 0 [] refl parted) (runs_give 0 (s ∷ ss) splits wide [] given refl (rest 0, coming, subst (λ (b : Bool). Loop s.level (Runs (levels ss)) [] b (rest 0) given) fresh r))
