-- What is noted of a line's members is what its columns read in it.
use Rattle.std.proofs.Common.{◌≡◌, ℕ, ℤ, ◌+◌, ◌<◌, ◌≤◌, Bool, true, false, not, ◌&&◌, ◌||◌, if◌then◌else◌, List, [], ◌∷◌, ◌++◌, Option}
use Rattle.std.proofs.Common.{Some, None, is_some, option_map, option_and_then, unwrap_or, length, map, take, drop, get_or, slice_set}
use Rattle.std.proofs.Common.{zero, suc, bytes_eq, refl, sym, ap, ap₂, ◌∙◌, true≢false, arith, Ordering, Less, Equal, Greater, nat_cmp}
use Rattle.std.proofs.Common.{is_eq, string_bytes}
use Rattle.std.specs.List.{list_all}
use Rattle.std.specs.Ordering.{match_ordering}
use Rattle.std.specs.Cmp.Lexicographic.{slice_cmp}
use Rattle.std.proofs.lemmas.List.{length-map}
use Rattle.std.proofs.lemmas.Map.Text.{is_eq-slice_cmp}
use Rattle.std.proofs.lemmas.Slice.Eq.{bytes_eq-Decides}
use Rattle.med_value.specs.Datum.{Datum, NoValue, Whole, Tuple, datum}
use Rattle.med_value.specs.declared.value.ColType.{ColType}
use Rattle.med_value.specs.declared.value.ColType.TheVariants as types
use Rattle.serde_json.specs.Data.{Data, null, boolean, number, string, array, object, Members, no_members, member, put}
use Rattle.serde_json.specs.Find.{as_i64, as_object, get_member}
use Rattle.serde_json.proofs.Views.{get_member-put, get_member-put_other}
use Rattle.json_members.specs.Seen.{Seen, seen, of_number}
use Rattle.jsonl_wrapper.specs.declared.fields.Field.{Field}
use Rattle.jsonl_wrapper.specs.declared.notes.Marks.{Marks}
use Rattle.jsonl_wrapper.specs.declared.notes.Cells.{Cells}
use Rattle.jsonl_wrapper.specs.declared.notes.Others.{Others}
use Rattle.jsonl_wrapper.specs.Fields.{Reader, reader_of, reads_member}
use Rattle.jsonl_wrapper.specs.Objects.{json_of, is_object, cell_of, is_read, is_typed, read_cell, cells_at, has_other}
use Rattle.jsonl_wrapper.specs.Wholes.{whole_is, is_whole, whole_readers, wholes_at}
use Rattle.jsonl_wrapper.specs.Notes.{cell_seen, Mark, mark_of, marks_of, row_of, at_member, kept_of, wholes_in}
use Rattle.jsonl_wrapper.specs.Noted.{MarksAfter, CellsAfter, OthersAfter}

-- a cell by what is seen of its member
int_seen : (o : Option ℤ) → option_map Whole o ≡ cell_seen (of_number o) types.Int
int_seen None = refl
int_seen (Some z) = refl

text_seen : (o : Option ℤ) → None ≡ cell_seen (of_number o) types.Text
text_seen None = refl
text_seen (Some z) = refl

truth_seen : (o : Option ℤ) → None ≡ cell_seen (of_number o) types.Bool
truth_seen None = refl
truth_seen (Some z) = refl

cell_is : (kind : ColType) (d : Data) → cell_of kind (Some d) ≡ cell_seen (seen d) kind
cell_is kind null = refl
cell_is types.Int (boolean b) = refl
cell_is types.Text (boolean b) = refl
cell_is types.Bool (boolean b) = refl
cell_is types.Int (number n) = int_seen (as_i64 n)
cell_is types.Text (number n) = text_seen (as_i64 n)
cell_is types.Bool (number n) = truth_seen (as_i64 n)
cell_is types.Int (string s) = refl
cell_is types.Text (string s) = refl
cell_is types.Bool (string s) = refl
cell_is types.Int (array ds) = refl
cell_is types.Text (array ds) = refl
cell_is types.Bool (array ds) = refl
cell_is types.Int (object ms) = refl
cell_is types.Text (object ms) = refl
cell_is types.Bool (object ms) = refl

-- what a column notes, once a member is put
module _ {X : Type 0} (value : Option Datum → X) where
  one_put : (kind : ColType) (key name : List ℕ) (d : Data) (ms : Members) (b : Bool) → bytes_eq key name ≡ b
      → value (cell_of kind (get_member key (put name d ms)))
      ≡ (if b then value (cell_seen (seen d) kind) else value (cell_of kind (get_member key ms)))
  one_put kind key name d ms true e =
      let same : key ≡ name = (bytes_eq-Decides key name).0 e in
      ap (λ (k : List ℕ). value (cell_of kind (get_member k (put name d ms)))) same
      ∙ ap (λ (o : Option Data). value (cell_of kind o)) (get_member-put name d ms) ∙ ap value (cell_is kind d)
  one_put kind key name d ms false e =
      ap (λ (o : Option Data). value (cell_of kind o))
      (get_member-put_other key name d ms (λ h. true≢false (sym ((bytes_eq-Decides key name).1 h) ∙ e)))

  pub all_put : (name : List ℕ) (d : Data) (ms : Members) (fs : List Reader)
      → map (λ f. value (cell_of f.kind (get_member f.member (put name d ms)))) fs
      ≡ at_member name (λ kind. value (cell_seen (seen d) kind)) fs (map (λ f. value (cell_of f.kind (get_member f.member ms))) fs)
  all_put name d ms [] = refl
  all_put name d ms (f ∷ fs) =
      ap₂ (λ (x : X) (xs : List X). x ∷ xs) (one_put f.kind f.member name d ms (bytes_eq f.member name) refl) (all_put name d ms fs)

-- the loop over the columns: those before a place have noted the member
module _ {X : Type 0} (name : List ℕ) (value : ColType → X) where
  none_left : (fs : List Reader) → at_member name value fs [] ≡ []
  none_left [] = refl
  none_left (f ∷ fs) = refl

  pub at_start : (fs : List Field) (xs : List X)
      → at_member name value (map reader_of fs) xs ≡ take 0 xs ++ at_member name value (map reader_of (drop 0 fs)) (drop 0 xs)
  at_start fs xs = refl

  here : (fs : List Field) (xs : List X) (i : ℕ) (f : Field) → i < length fs → i < length xs → f ≡ get_or fs i f
      → bytes_eq (string_bytes f.member) name ≡ true
      → take i xs ++ at_member name value (map reader_of (drop i fs)) (drop i xs)
      ≡ take (suc i) (slice_set xs i (value f.kind))
      ++ at_member name value (map reader_of (drop (suc i) fs)) (drop (suc i) (slice_set xs i (value f.kind)))
  here [] xs i f lt le is e = absurd (omega arith)
  here (g ∷ fs) [] i f lt le is e = absurd (omega arith)
  here (g ∷ fs) (x ∷ xs) zero f lt le is e =
      let eg : bytes_eq (string_bytes g.member) name ≡ true = ap (λ (h : Field). bytes_eq (string_bytes h.member) name) (sym is) ∙ e in
      ap (λ (b : Bool). (if b then value g.kind else x) ∷ at_member name value (map reader_of fs) xs) eg
      ∙ ap (λ (h : Field). value h.kind ∷ at_member name value (map reader_of fs) xs) (sym is)
  here (g ∷ fs) (x ∷ xs) (suc i) f lt le is e = ap (λ (ys : List X). x ∷ ys) (here fs xs i f (omega arith) (omega arith) is e)

  apart : (fs : List Field) (xs : List X) (i : ℕ) (f : Field) → i < length fs → i < length xs → f ≡ get_or fs i f
      → bytes_eq (string_bytes f.member) name ≡ false
      → take i xs ++ at_member name value (map reader_of (drop i fs)) (drop i xs)
      ≡ take (suc i) xs ++ at_member name value (map reader_of (drop (suc i) fs)) (drop (suc i) xs)
  apart [] xs i f lt le is e = absurd (omega arith)
  apart (g ∷ fs) [] i f lt le is e = absurd (omega arith)
  apart (g ∷ fs) (x ∷ xs) zero f lt le is e =
      let eg : bytes_eq (string_bytes g.member) name ≡ false = ap (λ (h : Field). bytes_eq (string_bytes h.member) name) (sym is) ∙ e in
      ap (λ (b : Bool). (if b then value g.kind else x) ∷ at_member name value (map reader_of fs) xs) eg
  apart (g ∷ fs) (x ∷ xs) (suc i) f lt le is e = ap (λ (ys : List X). x ∷ ys) (apart fs xs i f (omega arith) (omega arith) is e)

  by_case : (fs : List Field) (xs ys : List X) (i : ℕ) (f : Field) (b : Bool) → bytes_eq (string_bytes f.member) name ≡ b
      → i < length fs → i < length xs → f ≡ get_or fs i f → ys ≡ (if b then slice_set xs i (value f.kind) else xs)
      → take i xs ++ at_member name value (map reader_of (drop i fs)) (drop i xs)
      ≡ take (suc i) ys ++ at_member name value (map reader_of (drop (suc i) fs)) (drop (suc i) ys)
  by_case fs xs ys i f true e lt le is new =
      here fs xs i f lt le is e
      ∙ ap (λ (zs : List X). take (suc i) zs ++ at_member name value (map reader_of (drop (suc i) fs)) (drop (suc i) zs)) (sym new)
  by_case fs xs ys i f false e lt le is new =
      apart fs xs i f lt le is e
      ∙ ap (λ (zs : List X). take (suc i) zs ++ at_member name value (map reader_of (drop (suc i) fs)) (drop (suc i) zs)) (sym new)

  pub at_next : (fs : List Field) (xs ys : List X) (i : ℕ) (f : Field) → i < length fs → i < length xs → f ≡ get_or fs i f
      → ys ≡ (if bytes_eq (string_bytes f.member) name then slice_set xs i (value f.kind) else xs)
      → take i xs ++ at_member name value (map reader_of (drop i fs)) (drop i xs)
      ≡ take (i + 1) ys ++ at_member name value (map reader_of (drop (i + 1) fs)) (drop (i + 1) ys)
  at_next fs xs ys i f lt le is new =
      let one : suc i ≡ i + 1 = omega arith in
      by_case fs xs ys i f (bytes_eq (string_bytes f.member) name) refl lt le is new
      ∙ ap (λ (n : ℕ). take n ys ++ at_member name value (map reader_of (drop n fs)) (drop n ys)) one

  pub at_end : (fs : List Field) (xs : List X) (i : ℕ) → i ≡ length fs
      → take i xs ++ at_member name value (map reader_of (drop i fs)) (drop i xs) ≡ xs
  at_end [] xs zero e = refl
  at_end [] xs (suc i) e = absurd (omega arith)
  at_end (f ∷ fs) xs zero e = absurd (omega arith)
  at_end (f ∷ fs) [] (suc i) e = none_left (map reader_of (drop i fs))
  at_end (f ∷ fs) (x ∷ xs) (suc i) e = ap (λ (ys : List X). x ∷ ys) (at_end fs xs i (omega arith))

-- the notes after one member more
abbrev CellAt : Seen → ColType → Datum
CellAt s kind = unwrap_or (cell_seen s kind) NoValue

pub marks_after : (begun notes next : Marks) (ms : Members) (d : Data) (name : List ℕ) (s : Seen) → s ≡ seen d → MarksAfter begun ms notes
    → next.fields.now ≡ notes.fields.now
    → (length notes.fields.now ≤ length notes.marks.items
    → next.marks.items ≡ at_member name (λ kind. mark_of (cell_seen s kind)) (map reader_of notes.fields.now) notes.marks.items)
    → MarksAfter begun (put name d ms) next
marks_after begun notes next ms d name s e is same step =
    let fs = map reader_of begun.fields.now in
    let many : length notes.marks.items ≡ length notes.fields.now =
    ap length is.marks ∙ length-map fs (λ (f : Reader). mark_of (cell_of f.kind (get_member f.member ms)))
    ∙ length-map begun.fields.now reader_of
    ∙ ap length (sym is.fields) in
    record {
      fields = same ∙ is.fields;
      marks = step (omega arith)
          ∙ ap (λ (gs : List Field). at_member name (λ kind. mark_of (cell_seen s kind)) (map reader_of gs) notes.marks.items) is.fields
          ∙ ap (λ (xs : List Mark). at_member name (λ kind. mark_of (cell_seen s kind)) fs xs) is.marks
          ∙ ap (λ (t : Seen). at_member name (λ kind. mark_of (cell_seen t kind)) fs (marks_of fs ms)) e
          ∙ sym (all_put mark_of name d ms fs);
    }

pub cells_after : (begun notes next : Cells) (ms : Members) (d : Data) (name : List ℕ) (s : Seen) → s ≡ seen d → CellsAfter begun ms notes
    → next.fields.now ≡ notes.fields.now
    → (next.is_short ≡ false → (notes.is_short ≡ false) × (length notes.fields.now ≤ length notes.cells.items
    → map datum next.cells.items
    ≡ at_member name (λ kind. unwrap_or (cell_seen s kind) NoValue) (map reader_of notes.fields.now) (map datum notes.cells.items)))
    → CellsAfter begun (put name d ms) next
cells_after begun notes next ms d name s e is same step =
    let fs = map reader_of begun.fields.now in
    record {
      fields = same ∙ is.fields;
      cells = λ short.
          let now = step short in
          let old = is.cells now.0 in
          let many : length notes.cells.items ≡ length notes.fields.now =
          sym (length-map notes.cells.items datum) ∙ ap length old
          ∙ length-map fs (λ (f : Reader). unwrap_or (cell_of f.kind (get_member f.member ms)) NoValue)
          ∙ length-map begun.fields.now reader_of
          ∙ ap length (sym is.fields) in
          now.1 (omega arith)
          ∙ ap (λ (gs : List Field). at_member name (CellAt s) (map reader_of gs) (map datum notes.cells.items)) is.fields
          ∙ ap (λ (xs : List Datum). at_member name (CellAt s) fs xs) old
          ∙ ap (λ (t : Seen). at_member name (CellAt t) fs (row_of fs ms)) e
          ∙ sym (all_put (λ (o : Option Datum). unwrap_or o NoValue) name d ms fs);
    }

pub map_set : {X Y : Type 0} (f : X → Y) (xs : List X) (i : ℕ) (x : X) → map f (slice_set xs i x) ≡ slice_set (map f xs) i (f x)
map_set f [] zero x = refl
map_set f [] (suc i) x = refl
map_set f (y ∷ ys) zero x = refl
map_set {X} {Y} f (y ∷ ys) (suc i) x = ap (λ (zs : List Y). f y ∷ zs) (map_set f ys i x)

or_twice : (a b : Bool) → (a || b) ≡ (a || (a || b))
or_twice true b = refl
or_twice false b = refl

or_swap : (a b c : Bool) → (a || (b || c)) ≡ (b || (a || c))
or_swap true true c = refl
or_swap true false c = refl
or_swap false b c = refl

other_put_at : (rs : List Reader) (k l : List ℕ) (d e : Data) (ms : Members) (o : Ordering) → slice_cmp nat_cmp k l ≡ o
    → has_other rs (put k d ms) ≡ (not (reads_member rs k) || has_other rs ms)
    → has_other rs (match_ordering o (member k d (member l e ms)) (member l d ms) (member l e (put k d ms)))
    ≡ (not (reads_member rs k) || (not (reads_member rs l) || has_other rs ms))
other_put_at rs k l d e ms Less is later = refl
other_put_at rs k l d e ms Equal is later =
    let same : k ≡ l = (bytes_eq-Decides k l).0 (sym (is_eq-slice_cmp k l) ∙ ap is_eq is) in
    or_twice (not (reads_member rs l)) (has_other rs ms)
    ∙ ap (λ (z : List ℕ). not (reads_member rs z) || (not (reads_member rs l) || has_other rs ms)) (sym same)
other_put_at rs k l d e ms Greater is later =
    ap (λ (b : Bool). not (reads_member rs l) || b) later ∙ or_swap (not (reads_member rs l)) (not (reads_member rs k)) (has_other rs ms)

pub other_put : (rs : List Reader) (k : List ℕ) (d : Data) (ms : Members)
    → has_other rs (put k d ms) ≡ (not (reads_member rs k) || has_other rs ms)
other_put rs k d no_members = refl
other_put rs k d (member l e ms) = other_put_at rs k l d e ms (slice_cmp nat_cmp k l) refl (other_put rs k d ms)

pub others_after : (begun notes next : Others) (ms : Members) (d : Data) (name : List ℕ) → OthersAfter begun ms notes
    → next.fields.now ≡ notes.fields.now
    → next.is_wider ≡ (not (reads_member (map reader_of notes.fields.now) name) || notes.is_wider)
    → OthersAfter begun (put name d ms) next
others_after begun notes next ms d name is same step =
    record {
      fields = same ∙ is.fields;
      other = step
          ∙ ap (λ (gs : List Field). not (reads_member (map reader_of gs) name) || notes.is_wider) is.fields
          ∙ ap (λ (b : Bool). not (reads_member (map reader_of begun.fields.now) name) || b) is.other
          ∙ sym (other_put (map reader_of begun.fields.now) name d ms);
    }

-- what the marks of a line say
some_mark : (o : Option Datum) → is_some (mark_of o) ≡ is_some o
some_mark None = refl
some_mark (Some v) = refl

marks_typed : (fs : List Reader) (ms : Members) → list_all is_some (marks_of fs ms) ≡ list_all (is_read (Some (object ms))) fs
marks_typed [] ms = refl
marks_typed (f ∷ fs) ms =
    ap₂ (λ (a b : Bool). a && b) (some_mark (cell_of f.kind (get_member f.member ms))) (marks_typed fs ms)

pub typed_line : (fs : List Reader) (line : List ℕ) (ms : Members) (marks : List Mark) → json_of line ≡ Some (object ms)
    → marks ≡ marks_of fs ms → list_all is_some marks ≡ is_typed fs line
typed_line fs line ms marks is e =
    ap (list_all is_some) e ∙ marks_typed fs ms ∙ ap (λ (o : Option Data). list_all (is_read o) fs) (sym is)

number_mark : (o : Option ℤ) → whole_is (kept_of (mark_of (option_map Whole o))) ≡ unwrap_or (option_map Whole o) NoValue
number_mark None = refl
number_mark (Some z) = refl

whole_mark : (o : Option Data) → whole_is (kept_of (mark_of (cell_of types.Int o))) ≡ unwrap_or (cell_of types.Int o) NoValue
whole_mark None = refl
whole_mark (Some null) = refl
whole_mark (Some (boolean b)) = refl
whole_mark (Some (number n)) = number_mark (as_i64 n)
whole_mark (Some (string s)) = refl
whole_mark (Some (array ds)) = refl
whole_mark (Some (object ms)) = refl

one_whole : (kind : ColType) (o v : Option Data) (f : Reader) (ks : List (Option ℤ)) (fs : List Reader)
    → read_cell v f ≡ unwrap_or (cell_of kind o) NoValue → map whole_is ks ≡ map (read_cell v) fs
    → map whole_is (if is_whole kind then kept_of (mark_of (cell_of kind o)) ∷ ks else ks)
    ≡ map (read_cell v) (if is_whole kind then f ∷ fs else fs)
one_whole types.Int o v f ks fs e rest = ap₂ (λ (x : Datum) (xs : Tuple). x ∷ xs) (whole_mark o ∙ sym e) rest
one_whole types.Text o v f ks fs e rest = rest
one_whole types.Bool o v f ks fs e rest = rest

marks_whole : (fs : List Reader) (ms : Members) → map whole_is (wholes_in fs (marks_of fs ms))
    ≡ map (read_cell (Some (object ms))) (whole_readers fs)
marks_whole [] ms = refl
marks_whole (f ∷ fs) ms =
    one_whole f.kind (get_member f.member ms) (Some (object ms)) f (wholes_in fs (marks_of fs ms)) (whole_readers fs) refl
    (marks_whole fs ms)

pub whole_line : (fs : List Reader) (line : List ℕ) (ms : Members) (marks : List Mark) → json_of line ≡ Some (object ms)
    → marks ≡ marks_of fs ms → map whole_is (wholes_in fs marks) ≡ wholes_at fs line
whole_line fs line ms marks is e =
    ap (λ (xs : List Mark). map whole_is (wholes_in fs xs)) e ∙ marks_whole fs ms
    ∙ ap (λ (o : Option Data). map (read_cell o) (whole_readers fs)) (sym is)

pub object_line : (line : List ℕ) (ms : Members) → json_of line ≡ Some (object ms) → is_object line ≡ true
object_line line ms is = ap (λ (o : Option Data). is_some (option_and_then as_object o)) is

pub row_line : (fs : List Reader) (line : List ℕ) (ms : Members) (cells : Tuple) → json_of line ≡ Some (object ms)
    → cells ≡ row_of fs ms → cells ≡ cells_at fs line
row_line fs line ms cells is e = e ∙ ap (λ (o : Option Data). map (read_cell o) fs) (sym is)
