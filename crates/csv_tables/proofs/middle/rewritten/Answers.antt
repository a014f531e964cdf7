use Rattle.std.proofs.Common.{◌≡◌, ◌≤◌, ◌+◌, ◌-◌, ◌∷◌, ◌++◌, ◌∙◌, [], List, ℕ, Option, Some, None, true, take, drop, ap, subst, sym, refl, rules, arith}
use Rattle.std.specs.List.Sorted.{IsStrictlySortedBy}
use Rattle.std.specs.Ordering.{nat_cmp}
use Rattle.std.specs.Map.{keys_of}
use Rattle.std.proofs.lemmas.Map.Iter.{rest_more, rest_all}
use Rattle.csv.specs.Records.{fields_of}
use Rattle.csv.specs.declared.record.ByteRecord.{ByteRecord}
use Rattle.csv_tables.specs.CsvRecords.{Record, is_whole}
use Rattle.csv_tables.specs.Held.{held_of}
use Rattle.csv_tables.specs.Tables.{records_of}
use Rattle.csv_tables.specs.Rewriting.{is_wide, left_by, fate_is, fates_of}
use Rattle.csv_tables.proofs.Flat.{cut_length}
use Rattle.csv_tables.proofs.Changes.{Entries, Behind, fate_in, left_from, set_records, set_next, set_past, set_on, gone_on, left_around, wide_here, wide_rest}
use Rattle.csv_tables.proofs.middle.rewritten.Goals.{in-Some-line+in_ok-gather-in-Some-line, in-None-line}
use Rattle.csv_tables.proofs.middle.rewritten.Goals as goal

pub loop-id-init : goal.loop-id-init
loop-id-init c =
    let gives = c.into_iter-id-iterator.ensures.into_iter_gives in
    let s = c.args.rows.now in
    record {
      few = omega arith;
      within = omega arith;
      behind = subst (Behind c.args.from) (sym gives.0) c.requires.first;
      sorted = subst (λ (es : Entries). IsStrictlySortedBy nat_cmp (keys_of es)) (sym gives.0) gives.5;
      wide = λ place. ap (λ (es : Entries). is_wide s.width (fate_in es place)) gives.0 ∙ c.requires.wide place;
      done = ([], c.requires.gathers, refl);
    }

pub loop-id-preserved-then-place-rows : goal.loop-id-preserved-then-place-rows
loop-id-preserved-then-place-rows c =
    let s = c.args.rows.now in
    let rs = records_of s in
    let k = c.in-Some.id in
    let o = c.in-Some.line in
    let at = c.loop-id.at in
    let es = c.next.new.self in
    let i = c.loop-id.invariant in
    let first : c.loop-id.id-iterator ≡ (k, o) ∷ es = rest_more (λ p. p) c.loop-id.id-iterator es c.next.result (k, o) c.in-Some.is c.next.ensures.steps in
    let sorted = subst (λ (l : Entries). IsStrictlySortedBy nat_cmp (keys_of l)) first i.sorted in
    let wide = subst (λ (l : Entries). (place : ℕ) → is_wide s.width (fate_in l place) ≡ true) first i.wide in
    let count = cut_length s.count s.width (held_of s.fields) in
    let behind = subst (Behind at) first i.behind in
    let ahead : at ≤ k = behind.0 in
    let n = set_next k o es at rs behind sorted (omega arith) in
    let run = take (k - at) (drop at rs) in
    let rest = left_from es (k + 1) (drop (k + 1) rs) in
    let left = ap (λ (l : Entries). left_from l at (drop at rs)) first ∙ n.0 in
    let kept = c.in_ok-gathered.ensures in
    let copied = kept.rows i.done.0 i.done.1 in
    let few = i.few in
    let size = kept.count in
    elim c.match-line-2.branch [
      | in-Some-line+in_ok-gather-in-Some-line w ↦
          (let is : o ≡ Some w.in-Some-line.new = search rules in
          let here = wide_here s.width k o es wide in
          let whole : is_whole s.width (fields_of w.in-Some-line.new) ≡ true = ap (λ (x : Option ByteRecord). is_wide s.width (fate_is (Some x))) (sym is) ∙ here in
          let g = w.in_ok-gather-in-Some-line.ensures in
          let more = g.count in
          let set = left ∙ ap (λ (x : Option ByteRecord). run ++ (set_records x ++ rest)) is in
          rw w.gathered-is record {
            few = omega arith;
            within = omega arith;
            behind = n.1;
            sorted = n.2;
            wide = wide_rest s.width k o es sorted wide;
            done = (
              (i.done.0 ++ run) ++ fields_of w.in-Some-line.new ∷ [],
              g.rows s.width (i.done.0 ++ run) copied whole,
              set_on i.done.0 run (fields_of w.in-Some-line.new) _ rest _ i.done.2 set,
            );
          })
      | in-None-line w ↦
          (let is : o ≡ None = search rules in
          let set = left ∙ ap (λ (x : Option ByteRecord). run ++ (set_records x ++ rest)) is in
          rw w.gathered-is record {
            few = omega arith;
            within = omega arith;
            behind = n.1;
            sorted = n.2;
            wide = wide_rest s.width k o es sorted wide;
            done = (i.done.0 ++ run, copied, gone_on i.done.0 run _ rest _ i.done.2 set);
          })
    ]

pub loop-id-preserved-else-place-rows : goal.loop-id-preserved-else-place-rows
loop-id-preserved-else-place-rows c =
    let s = c.args.rows.now in
    let k = c.in-Some.id in
    let o = c.in-Some.line in
    let at = c.loop-id.at in
    let es = c.next.new.self in
    let i = c.loop-id.invariant in
    let first : c.loop-id.id-iterator ≡ (k, o) ∷ es = rest_more (λ p. p) c.loop-id.id-iterator es c.next.result (k, o) c.in-Some.is c.next.ensures.steps in
    let sorted = subst (λ (l : Entries). IsStrictlySortedBy nat_cmp (keys_of l)) first i.sorted in
    let wide = subst (λ (l : Entries). (place : ℕ) → is_wide s.width (fate_in l place) ≡ true) first i.wide in
    let count = cut_length s.count s.width (held_of s.fields) in
    let p = set_past k o es at (records_of s) (subst (Behind at) first i.behind) sorted (omega arith) (omega arith) in
    record {
      few = i.few;
      within = i.within;
      behind = p.1;
      sorted = p.2;
      wide = wide_rest s.width k o es sorted wide;
      done = (i.done.0, i.done.1, ap (λ (ls : List Record). i.done.0 ++ ls) (sym (ap (λ (l : Entries). left_from l at (drop at (records_of s))) first ∙ p.0)) ∙ i.done.2);
    }

pub loop-id-preserved : goal.loop-id-preserved
loop-id-preserved c =
    let s = c.args.rows.now in
    let k = c.in-Some.id in
    let o = c.in-Some.line in
    let at = c.loop-id.at in
    let es = c.next.new.self in
    let i = c.loop-id.invariant in
    let first : c.loop-id.id-iterator ≡ (k, o) ∷ es = rest_more (λ p. p) c.loop-id.id-iterator es c.next.result (k, o) c.in-Some.is c.next.ensures.steps in
    let sorted = subst (λ (l : Entries). IsStrictlySortedBy nat_cmp (keys_of l)) first i.sorted in
    let wide = subst (λ (l : Entries). (place : ℕ) → is_wide s.width (fate_in l place) ≡ true) first i.wide in
    let count = cut_length s.count s.width (held_of s.fields) in
    let p = set_past k o es at (records_of s) (subst (Behind at) first i.behind) sorted (omega arith) (omega arith) in
    record {
      few = i.few;
      within = i.within;
      behind = p.1;
      sorted = p.2;
      wide = wide_rest s.width k o es sorted wide;
      done = (i.done.0, i.done.1, ap (λ (ls : List Record). i.done.0 ++ ls) (sym (ap (λ (l : Entries). left_from l at (drop at (records_of s))) first ∙ p.0)) ∙ i.done.2);
    }

pub returns-clause-rows : goal.returns-clause-rows
returns-clause-rows c =
    let s = c.args.rows.now in
    let rs = records_of s in
    let at = c.loop-id.at in
    let from = c.args.from in
    let i = c.loop-id.invariant in
    let gives = c.into_iter-id-iterator.ensures.into_iter_gives in
    let none : c.loop-id.id-iterator ≡ [] = rest_all (λ p. p) c.loop-id.id-iterator c.next.new.self c.next.result c.in-None.is c.next.ensures.steps in
    let count = cut_length s.count s.width (held_of s.fields) in
    let all : i.done.0 ++ left_from [] at (drop at rs) ≡ left_from c.args.changed.entries from (drop from rs) =
    ap (λ (es : Entries). i.done.0 ++ left_from es at (drop at rs)) (sym none) ∙ i.done.2 ∙ ap (λ (es : Entries). left_from es from (drop from rs)) gives.0 in
    record {
      middle = i.done.0;
      gathers = i.done.1;
      all_is = left_around c.args.changed.entries from at rs i.done.0 c.requires.first (omega arith) all
          ∙ ap (λ (n : ℕ). left_by (fates_of c.args.changed n) rs) count;
    }
