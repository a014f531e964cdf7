-- Lines that come into the place of a range of a table's.
use Rattle.std.proofs.Common.{◌≡◌, ◌≤◌, ◌-◌, ◌++◌, ◌∙◌, ℕ, true, List, [], length, take, drop, refl, ap, sym, subst, arith}
use Rattle.std.specs.List.{slice_range}
use Rattle.std.proofs.lemmas.List.{append-nil, append_assoc, length-drop, take_all}
use Rattle.std.proofs.Math.ListN.{drop_of_length-le}
use Rattle.jsonl_wrapper.specs.declared.table.JsonTable.{JsonTable}
use Rattle.jsonl_wrapper.specs.declared.made.LinesWritten.{LinesWritten}
use Rattle.jsonl_wrapper.specs.declared.middle.Middle.{Middle}
use Rattle.jsonl_wrapper.specs.Tables.{readers_in, lines_in}
use Rattle.jsonl_wrapper.specs.Changes.{IsWritten, Leads, Leaves, Replaces}
use Rattle.jsonl_wrapper.proofs.RangeLaws.{upto_both}
use Rattle.jsonl_wrapper.proofs.RisingKeys.{lines_count}

abbrev Lines : Type 0
Lines = List (List ℕ)

-- no line in the place of none
pub lead_none : (t : JsonTable) (m : Middle) → m.from ≡ 0 → m.to ≡ 0 → IsWritten (readers_in t) m.made [] → Leads t m []
lead_none t m ef et is = record {
  order = omega arith;
  within = omega arith;
  middle = [];
  written = is;
  are = ap (λ (k : ℕ). take k (lines_in t) ++ []) (sym ef);
  none = λ e. refl;
  whole = λ no. ef;
}

-- on to a place in front of the first change
pub lead_skip : (t : JsonTable) (m n : Middle) (place : ℕ) (lines : Lines) → t.is_image ≡ true → m.from ≡ m.to → m.to ≤ place
    → place ≤ length t.lines.items → n.from ≡ place → n.to ≡ place → n.made ≡ m.made → Leads t m lines
    → Leads t n (lines ++ slice_range (lines_in t) m.to place)
lead_skip t m n place lines image same le within ef et em is =
    let all = lines_in t in
    let run = slice_range all m.to place in
    let here : lines ≡ take m.to all =
    is.are ∙ ap (λ (ls : Lines). take m.from all ++ ls) (is.none same) ∙ append-nil (take m.from all) ∙ ap (λ (k : ℕ). take k all) same in
    record {
      order = omega arith;
      within = omega arith;
      middle = [];
      written = subst (λ (w : LinesWritten). IsWritten (readers_in t) w []) (sym em) (subst (IsWritten (readers_in t) m.made) (is.none same) is.written);
      are = ap (λ (ls : Lines). ls ++ run) here ∙ sym (upto_both all m.to place le) ∙ ap (λ (k : ℕ). take k all) (sym ef) ∙ sym (append-nil (take n.from all));
      none = λ e. refl;
      whole = λ no. absurd (cc);
    }

-- on to a place behind it
pub lead_push : (t : JsonTable) (m n : Middle) (place : ℕ) (lines : Lines) → m.to ≤ place → place ≤ length t.lines.items
    → n.from ≡ m.from → n.to ≡ place
    → ((ls : Lines) → IsWritten (readers_in t) m.made ls → IsWritten (readers_in t) n.made (ls ++ slice_range (lines_in t) m.to place))
    → Leads t m lines → Leads t n (lines ++ slice_range (lines_in t) m.to place)
lead_push t m n place lines le within ef et push is =
    let all = lines_in t in
    let run = slice_range all m.to place in
    record {
      order = (let o = is.order in omega arith);
      within = omega arith;
      middle = is.middle ++ run;
      written = push is.middle is.written;
      are = ap (λ (ls : Lines). ls ++ run) is.are ∙ append_assoc (take m.from all) is.middle run
          ∙ ap (λ (k : ℕ). take k all ++ (is.middle ++ run)) (sym ef);
      none = λ e.
          (let o = is.order in
          let first : m.from ≡ m.to = omega arith in
          let no : place - m.to ≡ 0 = omega arith in
          ap (λ (ls : Lines). ls ++ run) (is.none first) ∙ ap (λ (k : ℕ). take k (drop m.to all)) no);
      whole = λ no. ef ∙ is.whole no;
    }

-- the lines behind a place, as they are
pub run_to_end : (t : JsonTable) (at : ℕ) → slice_range (lines_in t) at (length t.lines.items) ≡ drop at (lines_in t)
run_to_end t at =
    let long = length-drop at (lines_in t) in
    let many = lines_count t in
    take_all (length t.lines.items - at) (drop at (lines_in t)) (omega arith)

-- new lines behind all
pub close_new : (t : JsonTable) (m n p : Middle) (lines new : Lines) → n.to ≡ length t.lines.items → p.from ≡ n.from → p.to ≡ n.to
    → ((ls : Lines) → Leads t m ls → Leads t n (ls ++ slice_range (lines_in t) m.to (length t.lines.items)))
    → ((ls : Lines) → IsWritten (readers_in t) n.made ls → IsWritten (readers_in t) p.made (ls ++ new))
    → Leaves t m lines → Replaces t p (lines ++ new)
close_new t m n p lines new en ef et on push (done, is, all) =
    let run = slice_range (lines_in t) m.to (length t.lines.items) in
    let on_is = on done is in
    let o = on_is.order in
    let many = lines_count t in
    let none : drop p.to (lines_in t) ≡ [] = drop_of_length-le (lines_in t) (omega arith) in
    let left : lines ≡ take n.from (lines_in t) ++ on_is.middle =
    sym all ∙ ap (λ (ls : Lines). done ++ ls) (sym (run_to_end t m.to)) ∙ on_is.are in
    record {
      order = omega arith;
      within = omega arith;
      middle = on_is.middle ++ new;
      written = push on_is.middle on_is.written;
      are = ap (λ (ls : Lines). ls ++ new) left ∙ append_assoc (take n.from (lines_in t)) on_is.middle new
          ∙ ap (λ (k : ℕ). take k (lines_in t) ++ (on_is.middle ++ new)) (sym ef)
          ∙ sym (append-nil (take p.from (lines_in t) ++ (on_is.middle ++ new)))
          ∙ ap (λ (ls : Lines). take p.from (lines_in t) ++ (on_is.middle ++ new) ++ ls) (sym none);
      whole = λ no. (ef ∙ on_is.whole no, et ∙ en);
    }
