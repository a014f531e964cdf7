-- Records that are put together, and what a write leaves of records.
use Rattle.std.proofs.Common.{◌≡◌, ℕ, ◌+◌, ◌*◌, ◌-◌, ◌≤◌, Bool, true, false, ◌&&◌, nat_eq, List, [], ◌∷◌, ◌++◌, length, map, flat_map, replicate, take, drop, refl, ap, sym, ◌∙◌, subst, arith}
use Rattle.std.specs.List.{list_all}
use Rattle.std.specs.Str.{is_utf8}
use Rattle.std.proofs.lemmas.Bool.Decides.{nat_tests}
use Rattle.std.proofs.lemmas.List.{length-append, length-drop, length-take-le, length_push, append_assoc, take_all, drop_all}
use Rattle.csv.specs.Records.{Row, fields_of, partial_of}
use Rattle.csv.specs.declared.record.ByteRecord.{ByteRecord}
use Rattle.med_value.specs.Datum.{Tuple}
use Rattle.fdw_api.specs.Prelude.{Held, held, Change, row_after}
use Rattle.wrapper_parts.specs.declared.fates.Fate.TheVariants.{Keep}
use Rattle.csv_tables.specs.declared.middle.Gathered.{Gathered}
use Rattle.csv_tables.specs.Cells.{line_of}
use Rattle.csv_tables.specs.CsvRecords.{Record, is_whole}
use Rattle.csv_tables.specs.Shapes.{Shape, read_row}
use Rattle.csv_tables.specs.declared.table.Rows.{Rows}
use Rattle.csv_tables.specs.Tables.{numbered, records_of}
use Rattle.csv_tables.specs.Rewriting.{Gathers, Replaces}
use Rattle.wrapper_parts.proofs.Weaves.{left_from}
use Rattle.csv_tables.proofs.Flat.{cut_length}
use Rattle.csv_tables.proofs.Holding.{ended_more, ended_both, whole_both, whole_take, whole_drop, rows_whole, rows_range}
use Rattle.csv_tables.proofs.Shown.{plain_known, plain_both, plain_take, plain_drop}
use Rattle.csv_tables.specs.Held.{held_of, ended, is_plain}

both : (a b : Bool) → (a && b) ≡ true → (a ≡ true) × (b ≡ true)
both true b e = (refl, e)
both false b e = absurd cc

append_none : (l : List Record) → l ++ [] ≡ l
append_none [] = refl
append_none (r ∷ l) = ap (λ (m : List Record). r ∷ m) (append_none l)

pub same_width : (width : ℕ) (f : Record) → is_whole width f ≡ true → length f ≡ width
same_width width f e = equal (length f) width (both (nat_eq (length f) width) (list_all is_utf8 f) e).0
  where
    equal : (m n : ℕ) → nat_eq m n ≡ true → m ≡ n
    equal m n h = grind (arith, nat_tests)

-- no record yet
pub none_gathered : (width : ℕ) (fields : Row) (plain : Bool) → partial_of fields ≡ [] → fields_of fields ≡ [] → Gathers width [] (record { fields = fields; count = 0; plain = plain })
none_gathered width fields plain ep ef = record { no_partial = ep; count_is = refl; whole = refl; lines = ef; shown = λ e. refl }

-- one more record
pub gathers_more : (width : ℕ) (rows : List Record) (g h : Gathered) (f : Record) → Gathers width rows g → is_whole width f ≡ true
    → fields_of h.fields ≡ fields_of g.fields ++ ended f → partial_of h.fields ≡ [] → h.count ≡ g.count + 1
    → (h.plain ≡ true → (g.plain ≡ true) × (is_plain f ≡ true)) → Gathers width (rows ++ f ∷ []) h
gathers_more width rows g h f was wide ef ep ec plain =
    let n = was.count_is in
    let l = length_push rows f in
    record {
      no_partial = ep;
      count_is = omega arith;
      whole = whole_both width rows (f ∷ []) was.whole (rw wide refl);
      lines = ef ∙ ap (λ (l : Record). l ++ ended f) was.lines ∙ sym (ended_more rows f);
      shown = λ e. (let b = plain e in plain_both rows (f ∷ []) (was.shown b.0) (rw b.1 refl));
    }

-- records of a table behind others
pub gathers_range : (r : Rows) (rows : List Record) (g h : Gathered) (from to : ℕ) → Gathers r.width rows g → from ≤ to → to ≤ r.count
    → fields_of h.fields ≡ fields_of g.fields ++ take (to * r.width - from * r.width) (drop (from * r.width) (fields_of r.fields)) → partial_of h.fields ≡ []
    → h.count ≡ g.count + (to - from) → (h.plain ≡ true → (g.plain ≡ true) × (r.plain ≡ true)) → Gathers r.width (rows ++ take (to - from) (drop from (records_of r))) h
gathers_range r rows g h from to was order within ef ep ec plain =
    let more = take (to - from) (drop from (records_of r)) in
    let n = was.count_is in
    let all = cut_length r.count r.width (held_of r.fields) in
    let d = length-drop from (records_of r) in
    let m : length more ≡ to - from = length-take-le (to - from) (drop from (records_of r)) (omega arith) in
    let a = length-append rows more in
    record {
      no_partial = ep;
      count_is = omega arith;
      whole = whole_both r.width rows more was.whole (whole_take r.width (to - from) (drop from (records_of r)) (whole_drop r.width from (records_of r) (rows_whole r)));
      lines = ef ∙ ap (λ (l : Record). l ++ take (to * r.width - from * r.width) (drop (from * r.width) (fields_of r.fields))) was.lines
          ∙ ap (λ (l : Record). flat_map ended rows ++ l) (rows_range r from to order) ∙ sym (ended_both rows more);
      shown = λ e. (let b = plain e in plain_both rows more (was.shown b.0) (plain_take (to - from) (drop from (records_of r)) (plain_drop from (records_of r) (plain_known r.plain (records_of r) r.shown b.1))));
    }

pub gathers_as : (width : ℕ) (xs ys : List Record) (g : Gathered) → Gathers width xs g → xs ≡ ys → Gathers width ys g
gathers_as width xs ys g h e = subst (λ (l : List Record). Gathers width l g) e h

-- the new records, one after the other
pub lines_first : (width : ℕ) (x : ByteRecord) (xs ys : List ByteRecord) → xs ≡ x ∷ ys → list_all (is_whole width) (map fields_of xs) ≡ true
    → (is_whole width (fields_of x) ≡ true) × (list_all (is_whole width) (map fields_of ys) ≡ true)
lines_first width x xs ys e h = both (is_whole width (fields_of x)) (list_all (is_whole width) (map fields_of ys)) (sym (ap (λ (l : List ByteRecord). list_all (is_whole width) (map fields_of l)) e) ∙ h)

pub lines_on : (done all : List Record) (x : ByteRecord) (xs ys : List ByteRecord) → done ++ map fields_of xs ≡ all → xs ≡ x ∷ ys → (done ++ fields_of x ∷ []) ++ map fields_of ys ≡ all
lines_on done all x xs ys i e = append_assoc done (fields_of x ∷ []) (map fields_of ys) ∙ ap (λ (l : List ByteRecord). done ++ map fields_of l) (sym e) ∙ i

pub lines_end : (done all : List Record) (xs : List ByteRecord) → done ++ map fields_of xs ≡ all → xs ≡ [] → done ≡ all
lines_end done all xs i e = sym (append_none done) ∙ ap (λ (l : List ByteRecord). done ++ map fields_of l) (sym e) ∙ i

-- kept records, before any change
pub left_kept : (shape : Shape) (n : ℕ) (rs : List Record) (cs : List Change)
    → left_from (line_of shape.null) (read_row shape) fields_of n rs (replicate (length rs) Keep) cs
    ≡ flat_map (λ r. row_after (line_of shape.null) r.id cs (held r ∷ [])) (numbered shape n rs)
left_kept shape n [] cs = refl
left_kept shape n (r ∷ rs) cs = ap (λ (l : List Held). row_after (line_of shape.null) n cs (read_row shape r ∷ []) ++ l) (left_kept shape (n + 1) rs cs)

-- the row of a written record
abbrev pub WritesRow : Shape → ByteRecord → Tuple → Type 0
WritesRow shape r x = read_row shape (fields_of r) ≡ record { cells = x; origin = line_of shape.null x }

pub no_lines : (l : List ByteRecord) → length l ≡ 0 → l ≡ []
no_lines [] e = refl
no_lines (x ∷ l) e = absurd (omega arith)

-- records in the place of a range, and no new ones behind them
pub replaces_none : (r : Rows) (all : List Record) (from to : ℕ) (g : Gathered) (fresh : List ByteRecord) → Replaces r all from to g → fresh ≡ []
    → Replaces r (all ++ map fields_of fresh) from to g
replaces_none r all from to g fresh h e = record {
  middle = h.middle;
  gathers = h.gathers;
  all_is = h.all_is ∙ sym (append_none all) ∙ ap (λ (l : List ByteRecord). all ++ map fields_of l) (sym e);
}

-- and new ones behind the last record of the table
pub replaces_fresh : (r : Rows) (all : List Record) (from to : ℕ) (old g : Gathered) (fresh : List Record) → to ≤ r.count → Replaces r all from to old
    → ((middle : List Record) → Gathers r.width middle old → Gathers r.width (middle ++ take (r.count - to) (drop to (records_of r)) ++ fresh) g)
    → Replaces r (all ++ fresh) from r.count g
replaces_fresh r all from to old g fresh le h more =
    let rs = records_of r in
    let n = cut_length r.count r.width (held_of r.fields) in
    let d = length-drop to rs in
    let rest : take (r.count - to) (drop to rs) ≡ drop to rs = take_all (r.count - to) (drop to rs) (omega arith) in
    let last : drop r.count rs ≡ [] = drop_all r.count rs (omega arith) in
    record {
      middle = h.middle ++ take (r.count - to) (drop to rs) ++ fresh;
      gathers = more h.middle h.gathers;
      all_is = ap (λ (l : List Record). take from rs ++ (h.middle ++ take (r.count - to) (drop to rs) ++ fresh) ++ l) last
          ∙ append_none (take from rs ++ (h.middle ++ take (r.count - to) (drop to rs) ++ fresh))
          ∙ ap (λ (l : List Record). take from rs ++ (h.middle ++ l ++ fresh)) rest
          ∙ sym (append_assoc (take from rs) (h.middle ++ drop to rs) fresh)
          ∙ ap (λ (l : List Record). l ++ fresh) (sym (append_assoc (take from rs) h.middle (drop to rs)) ∙ h.all_is);
    }

-- how many records there are with them
pub replaces_count : (r : Rows) (all : List Record) (from to : ℕ) (g : Gathered) → from ≤ r.count → Replaces r all from to g → length all ≡ from + g.count + (r.count - to)
replaces_count r all from to g le h =
    let rs = records_of r in
    let n = cut_length r.count r.width (held_of r.fields) in
    let t = length-take-le from rs (omega arith) in
    let d = length-drop to rs in
    let a = length-append (take from rs ++ h.middle) (drop to rs) in
    let b = length-append (take from rs) h.middle in
    let c = h.gathers.count_is in
    let e = ap length h.all_is in
    omega arith
