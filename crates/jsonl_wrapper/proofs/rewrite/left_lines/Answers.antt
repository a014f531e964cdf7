use Rattle.std.proofs.Common.{◌≡◌, ◌+◌, ◌∷◌, ◌++◌, ◌∙◌, [], List, ℕ, String, Global, Option, drop, ap, subst, sym, arith}
use Rattle.std.specs.List.{slice_range}
use Rattle.std.specs.List.Sorted.{IsStrictlySortedBy}
use Rattle.std.specs.Ordering.{nat_cmp}
use Rattle.std.specs.Map.{keys_of}
use Rattle.std.proofs.lemmas.Map.Iter.{rest_more, rest_all}
use Rattle.jsonl_wrapper.specs.Tables.{lines_in}
use Rattle.jsonl_wrapper.specs.Changes.{left_by, fates_of, set_lines}
use Rattle.jsonl_wrapper.proofs.ChangeLaws.{Behind, left_from, set_next, set_past, set_end, put_on, all_from_zero}
use Rattle.jsonl_wrapper.proofs.MiddleLaws.{run_to_end}
use Rattle.jsonl_wrapper.proofs.RisingKeys.{lines_count}
use Rattle.jsonl_wrapper.proofs.rewrite.left_lines.Goals as goal

abbrev Entries : Type 0
Entries = List (ℕ × Option (String Global))

pub loop-id-init : goal.loop-id-init
loop-id-init c =
    let gives = c.into_iter-id-iterator.ensures.into_iter_gives in
    let es = c.into_iter-id-iterator.result in
    let zero = c.requires.to in
    record {
      within = omega arith;
      behind = subst (λ (k : ℕ). Behind k es) (sym zero) (all_from_zero es);
      sorted = subst (λ (es : Entries). IsStrictlySortedBy nat_cmp (keys_of es)) (sym gives.0) gives.5;
      leads = ([], c.requires.none, ap (λ (k : ℕ). left_from es k (drop k (lines_in c.args.table.now))) zero);
    }

pub loop-id-preserved-in-Continue-branch-2 : goal.loop-id-preserved-in-Continue-branch-2
loop-id-preserved-in-Continue-branch-2 c =
    let t = c.args.table.now in
    let k = c.in-Some.id in
    let o = c.in-Some.line in
    let at = c.loop-id.middle.to in
    let es = c.next.new.self in
    let i = c.loop-id.invariant in
    let first : c.loop-id.id-iterator ≡ (k, o) ∷ es = rest_more (λ p. p) c.loop-id.id-iterator es c.next.result (k, o) c.in-Some.is c.next.ensures.steps in
    let count = lines_count t in
    let n = set_next k o es at (lines_in t) (subst (Behind at) first i.behind) (subst (λ (l : Entries). IsStrictlySortedBy nat_cmp (keys_of l)) first i.sorted) (omega arith) in
    let run = slice_range (lines_in t) at k in
    let left = ap (λ (l : Entries). left_from l at (drop at (lines_in t))) first ∙ n.0 in
    let went = c.in_ok-go_to.ensures.leads i.leads.0 i.leads.1 in
    let put = c.in_ok-put.ensures.leads (i.leads.0 ++ run) went in
    let on : c.put.new.self.to ≡ k + 1 = c.in_ok-put.ensures.to ∙ ap (λ (n : ℕ). n + 1) c.in_ok-go_to.ensures.to in
    record {
      within = omega arith;
      behind = subst (λ (n : ℕ). Behind n es) (sym on) n.1;
      sorted = n.2;
      leads = (
        i.leads.0 ++ run ++ set_lines o,
        put,
        ap (λ (n : ℕ). (i.leads.0 ++ run ++ set_lines o) ++ left_from es n (drop n (lines_in t))) on ∙ put_on i.leads.0 run (set_lines o) _ _ _ i.leads.2 left,
      );
    }

pub loop-id-preserved-else-place-len : goal.loop-id-preserved-else-place-len
loop-id-preserved-else-place-len c =
    let t = c.args.table.now in
    let k = c.in-Some.id in
    let o = c.in-Some.line in
    let at = c.loop-id.middle.to in
    let es = c.next.new.self in
    let i = c.loop-id.invariant in
    let first : c.loop-id.id-iterator ≡ (k, o) ∷ es = rest_more (λ p. p) c.loop-id.id-iterator es c.next.result (k, o) c.in-Some.is c.next.ensures.steps in
    let count = lines_count t in
    let p = set_past k o es at (lines_in t) (subst (Behind at) first i.behind) (subst (λ (l : Entries). IsStrictlySortedBy nat_cmp (keys_of l)) first i.sorted) (omega arith) (omega arith) in
    record {
      within = i.within;
      behind = p.1;
      sorted = p.2;
      leads = (i.leads.0, i.leads.1, ap (λ (ls : List (List ℕ)). i.leads.0 ++ ls) (sym (ap (λ (l : Entries). left_from l at (drop at (lines_in t))) first ∙ p.0)) ∙ i.leads.2);
    }

pub loop-id-preserved : goal.loop-id-preserved
loop-id-preserved c =
    let t = c.args.table.now in
    let k = c.in-Some.id in
    let o = c.in-Some.line in
    let at = c.loop-id.middle.to in
    let es = c.next.new.self in
    let i = c.loop-id.invariant in
    let first : c.loop-id.id-iterator ≡ (k, o) ∷ es = rest_more (λ p. p) c.loop-id.id-iterator es c.next.result (k, o) c.in-Some.is c.next.ensures.steps in
    let count = lines_count t in
    let p = set_past k o es at (lines_in t) (subst (Behind at) first i.behind) (subst (λ (l : Entries). IsStrictlySortedBy nat_cmp (keys_of l)) first i.sorted) (omega arith) (omega arith) in
    record {
      within = i.within;
      behind = p.1;
      sorted = p.2;
      leads = (i.leads.0, i.leads.1, ap (λ (ls : List (List ℕ)). i.leads.0 ++ ls) (sym (ap (λ (l : Entries). left_from l at (drop at (lines_in t))) first ∙ p.0)) ∙ i.leads.2);
    }

pub returns-clause-leaves : goal.returns-clause-leaves
returns-clause-leaves c =
    let t = c.args.table.now in
    let at = c.loop-id.middle.to in
    let i = c.loop-id.invariant in
    let gives = c.into_iter-id-iterator.ensures.into_iter_gives in
    let none : c.loop-id.id-iterator ≡ [] = rest_all (λ p. p) c.loop-id.id-iterator c.next.new.self c.next.result c.in-None.is c.next.ensures.steps in
    let count = lines_count t in
    let all : i.leads.0 ++ drop at (lines_in t) ≡ left_from c.args.changed.entries 0 (lines_in t) =
    ap (λ (ls : List (List ℕ)). i.leads.0 ++ ls) (sym (run_to_end t at) ∙ ap (λ (n : ℕ). slice_range (lines_in t) at n) (sym count)
    ∙ sym (set_end c.loop-id.id-iterator at (lines_in t) none)) ∙ i.leads.2 ∙ ap (λ (es : Entries). left_from es 0 (lines_in t)) gives.0 in
    (i.leads.0, i.leads.1, all ∙ ap (λ (n : ℕ). left_by (fates_of c.args.changed n) (lines_in t)) count)
