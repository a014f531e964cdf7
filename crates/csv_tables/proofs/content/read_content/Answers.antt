use Rattle.std.proofs.Common.{◌≡◌, ◌≤◌, ◌∙◌, [], true, ap, sym, subst, ℕ, length, arith}
use Rattle.csv_tables.specs.CsvRecords.{csv_records, is_whole}
use Rattle.csv_tables.specs.Content.{rows_so_far}
use Rattle.csv_tables.specs.Flat.{cut_into, header_in}
use Rattle.csv_tables.specs.Tables.{shape_is}
use Rattle.csv_tables.proofs.Flat.{cut_length, texts_cut, texts_behind}
use Rattle.csv_tables.proofs.Shown.{plain_told}
use Rattle.csv_tables.proofs.Drafts.{no_causes, heading_first}
use Rattle.csv_tables.proofs.content.read_content.Goals as goal
use Rattle.csv_tables.specs.Held.{held_of, ended}
use Rattle.std.specs.List.{flat_map, list_all}
use Rattle.csv.specs.Records.{fields_of}

pub returns-clause-ok : goal.returns-clause-ok
returns-clause-ok c =
    let shape = shape_is c.args.layout.now in
    let d = c.in_ok-draft.draft in
    let was = c.in_ok-draft.ensures.draft in
    let all = c.in_ok-draft.ensures.all in
    let n = cut_length d.count (length shape.kinds) (held_of d.fields) in
    let f = was.few in
    let few : length (rows_so_far shape d) ≤ 1000000 = omega arith in
    let small : length c.args.bytes.now ≤ 67108864 = omega arith in
    let first = λ (h : shape.header ≡ true) (z : header_in d.header ≡ []). ap (λ (k : ℕ). cut_into k (length shape.kinds) (held_of d.fields)) (was.header_first h z) in
    let w = no_causes shape c.args.bytes.now d.header (rows_so_far shape d) all small was.columns was.no_header first was.whole was.readable few in
    let e : length shape.kinds ≡ c.len-width.result = omega arith in
    record {
      no_cause = w.0;
      header_is = heading_first shape.header shape.names d.header (rows_so_far shape d) (csv_records c.args.bytes.now) was.no_header first all ∙ sym c.in_ok-header.ensures;
      rows_are = w.1 ∙ ap (λ (k : ℕ). cut_into d.count k (held_of d.fields)) e;
    }

pub invariant_of-result-clause-lines : goal.invariant_of-result-clause-lines
invariant_of-result-clause-lines c =
    let d = c.in_ok-draft.draft in
    let e : length c.args.layout.now.kinds.items ≡ c.len-width.result = omega arith in
    c.in_ok-draft.ensures.draft.lines ∙ ap (λ (k : ℕ). flat_map ended (cut_into d.count k (held_of d.fields))) e

pub invariant_of-result-clause-texts : goal.invariant_of-result-clause-texts
invariant_of-result-clause-texts c =
    let shape = shape_is c.args.layout.now in
    let d = c.in_ok-draft.draft in
    let was = c.in_ok-draft.ensures.draft in
    texts_cut d.count (length shape.kinds) (held_of d.fields) was.full (texts_behind (header_in d.header) (rows_so_far shape d) (length shape.kinds) was.whole)

pub invariant_of-result-clause-shown : goal.invariant_of-result-clause-shown
invariant_of-result-clause-shown c =
    let shape = shape_is c.args.layout.now in
    let d = c.in_ok-draft.draft in
    let was = c.in_ok-draft.ensures.draft in
    let e : length shape.kinds ≡ c.len-width.result = omega arith in
    let whole = texts_behind (header_in d.header) (rows_so_far shape d) (length shape.kinds) was.whole in
    plain_told c.are_plain-plain.result (cut_into d.count c.len-width.result (held_of d.fields)) (λ is. c.are_plain-plain.ensures is (cut_into d.count c.len-width.result (held_of d.fields))
    (subst (λ (k : ℕ). list_all (is_whole k) (cut_into d.count k (held_of d.fields)) ≡ true) e whole)
    (subst (λ (k : ℕ). fields_of d.fields ≡ flat_map ended (cut_into d.count k (held_of d.fields))) e was.lines))
