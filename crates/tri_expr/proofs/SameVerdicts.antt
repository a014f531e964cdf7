-- A verdict does not depend on the order of the conjuncts.
use Rattle.std.proofs.Common.{Bool, true, false, cond, List, [], ◌∷◌, Contains, subst}
use Rattle.std.specs.List.{list_any}
use Rattle.std.specs.List.Sorted.{IsPermutation}
use Rattle.std.proofs.lemmas.List.Sorted.{Contains-permutation}
use Rattle.tri_expr.specs.declared.expr.Fault.{Fault}
use Rattle.tri_expr.specs.Outcome.{Outcome, Is, Fails}
use Rattle.tri_expr.specs.Verdict.{is_refusal, is_met, fault_list}
use Rattle.tri_expr.specs.Laws.{SameVerdict}
use Rattle.tri_expr.proofs.Shuffled.{Shuffled, none, skip, turn, both, same, from_swaps, to_swaps, any_kept, all_kept}

faults_shuffled : {os us : List Outcome} → Shuffled os us → Shuffled (fault_list os) (fault_list us)
faults_shuffled none = none
faults_shuffled (skip (Is v) s) = faults_shuffled s
faults_shuffled (skip (Fails c) s) = skip c (faults_shuffled s)
faults_shuffled (turn (Is v) (Is w) os) = same (fault_list os)
faults_shuffled (turn (Is v) (Fails d) os) = same (d ∷ fault_list os)
faults_shuffled (turn (Fails c) (Is w) os) = same (c ∷ fault_list os)
faults_shuffled (turn (Fails c) (Fails d) os) = turn c d (fault_list os)
faults_shuffled (both s t) = both (faults_shuffled s) (faults_shuffled t)

told_by : (os us : List Outcome) (b : Bool) → Shuffled os us → (c : Fault) → Contains (cond b [] (fault_list os)) c → Contains (cond b [] (fault_list us)) c
told_by os us true s c h = h
told_by os us false s c h = Contains-permutation (fault_list os) (fault_list us) c (to_swaps (faults_shuffled s)) h

pub same_verdict : (os us : List Outcome) → IsPermutation os us → SameVerdict os us
same_verdict os us p =
    let s : Shuffled os us = from_swaps os us p in
    record {
      within = all_kept is_met s;
      told = λ c h. subst (λ (b : Bool). Contains (cond b [] (fault_list us)) c) (any_kept is_refusal s) (told_by os us (list_any is_refusal os) s c h);
    }
