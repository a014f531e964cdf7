-- A range of a table's lines that is exchanged, in its bytes, its places and its integers.
use Rattle.std.proofs.Common.{◌≡◌, ◌≤◌, ◌<◌, ◌+◌, ◌-◌, ◌*◌, ◌^◌, ◌&&◌, ◌++◌, ◌∙◌, ℕ, zero, suc, Bool, true, false, List, [], ◌∷◌, length, map, take, drop, get_or, slice_set, refl, ap, sym, subst, arith}
use Rattle.std.specs.List.{list_all}
use Rattle.std.proofs.lemmas.List.{length-append, length-take-le, length-drop, take_at, drop_at, take-append-drop, map-append}
use Rattle.std.proofs.lemmas.List.Concat.{flat_map-append}
use Rattle.std.proofs.Math.ListN.{drop_of_length-le}
use Rattle.med_value.specs.Datum.{Tuple}
use Rattle.jsonl_wrapper.specs.declared.lines.Span.{Span}
use Rattle.jsonl_wrapper.specs.declared.table.JsonTable.{JsonTable}
use Rattle.jsonl_wrapper.specs.declared.middle.Middle.{Middle}
use Rattle.jsonl_wrapper.specs.declared.exchange.Cut.{Cut}
use Rattle.jsonl_wrapper.specs.declared.exchange.Exchange.{Exchange}
use Rattle.jsonl_wrapper.specs.Lines.{text_of, lines_at, spans_from, moved, is_movable, IsImage}
use Rattle.jsonl_wrapper.specs.Tables.{readers_in, lines_in}
use Rattle.jsonl_wrapper.specs.Wholes.{whole_is, whole_readers, wholes_at, wholes_of}
use Rattle.jsonl_wrapper.specs.Changes.{Replaces, IsCut, Exchanges}
use Rattle.jsonl_wrapper.specs.Contents.{rows_of_lines, image_too_large, is_too_large, lines_held}
use Rattle.jsonl_wrapper.proofs.LineLaws.{text_both, places_both, image_stands}
use Rattle.jsonl_wrapper.proofs.RangeLaws.{places_count, range_of_bytes, movable, moves}
use Rattle.jsonl_wrapper.proofs.RewriteLaws.{lines_back, length_rows}
use Rattle.jsonl_wrapper.proofs.RisingKeys.{lines_count}
use Rattle.jsonl_wrapper.proofs.WholeLaws.{map_take, map_drop, wholes_take, wholes_drop}

abbrev Lines : Type 0
Lines = List (List ℕ)

-- what stands in front of a cut, and behind it
pub record Ends (t : JsonTable) (from to : ℕ) (cut : Cut) : Type 0 where
  pub order : cut.first ≤ cut.end
  pub inside : cut.end ≤ length t.content.items
  pub size : cut.first ≡ length (text_of (take from (lines_in t)))
  pub front : take cut.first t.content.items ≡ text_of (take from (lines_in t))
  pub back : drop cut.end t.content.items ≡ text_of (drop to (lines_in t))
  pub places : take from t.lines.items ≡ spans_from 0 (take from (lines_in t))
  pub behind : drop to t.lines.items ≡ spans_from cut.end (drop to (lines_in t))

-- a content of lines as they are written, parted at one of them
parted : (t : JsonTable) (at : ℕ) → IsImage t.content.items t.lines.items (lines_in t)
    → t.content.items ≡ text_of (take at (lines_in t)) ++ text_of (drop at (lines_in t))
parted t at is = is.text ∙ ap text_of (sym (take-append-drop at (lines_in t))) ∙ text_both (take at (lines_in t)) (drop at (lines_in t))

places_parted : (t : JsonTable) (at : ℕ) → IsImage t.content.items t.lines.items (lines_in t)
    → t.lines.items ≡ spans_from 0 (take at (lines_in t)) ++ spans_from (0 + length (text_of (take at (lines_in t)))) (drop at (lines_in t))
places_parted t at is =
    is.places ∙ ap (spans_from 0) (sym (take-append-drop at (lines_in t))) ∙ places_both 0 (take at (lines_in t)) (drop at (lines_in t))

-- so many places as lines
many_places : (t : JsonTable) (at : ℕ) → at ≤ length t.lines.items → length (spans_from 0 (take at (lines_in t))) ≡ at
many_places t at le =
    let many = lines_count t in
    places_count 0 (take at (lines_in t)) ∙ length-take-le at (lines_in t) (omega arith)

ends_written : (t : JsonTable) (from to : ℕ) (cut : Cut) → t.is_image ≡ true → from ≤ to → to ≤ length t.lines.items → IsCut t from to cut
    → Ends t from to cut
ends_written t from to cut image le within is =
    let all = lines_in t in
    let bytes = t.content.items in
    let stands = t.image image in
    let sizes = is.written image in
    let range = range_of_bytes bytes t.lines.items all from to cut.first cut.end stands le sizes.0 sizes.1 in
    let a : length (spans_from 0 (take from all)) ≡ from = many_places t from (omega arith) in
    let b : length (spans_from 0 (take to all)) ≡ to = many_places t to within in
    let there : 0 + length (text_of (take to all)) ≡ cut.end = (let e = sizes.1 in omega arith) in
    record {
      order = (let e = range.1 in omega arith);
      inside = range.2;
      size = sizes.0;
      front = ap (take cut.first) (parted t from stands) ∙ take_at (text_of (take from all)) (text_of (drop from all)) cut.first (sym sizes.0);
      back = ap (drop cut.end) (parted t to stands) ∙ drop_at (text_of (take to all)) (text_of (drop to all)) cut.end (sym sizes.1);
      places = ap (take from) (places_parted t from stands)
          ∙ take_at (spans_from 0 (take from all)) (spans_from (0 + length (text_of (take from all))) (drop from all)) from a;
      behind = ap (drop to) (places_parted t to stands)
          ∙ drop_at (spans_from 0 (take to all)) (spans_from (0 + length (text_of (take to all))) (drop to all)) to b
          ∙ ap (λ (n : ℕ). spans_from n (drop to all)) there;
    }

ends_other : (t : JsonTable) (from to : ℕ) (cut : Cut) → t.is_image ≡ false → from ≡ 0 → to ≡ length t.lines.items → IsCut t from to cut
    → Ends t from to cut
ends_other t from to cut image ef et is =
    let all = lines_in t in
    let many = lines_count t in
    let sizes = is.other image in
    let none : take from all ≡ [] = ap (λ (k : ℕ). take k all) ef in
    let last : drop to all ≡ [] = drop_of_length-le all (omega arith) in
    let past : drop to t.lines.items ≡ [] = drop_of_length-le t.lines.items (omega arith) in
    let first = sizes.0 in
    let end = sizes.1 in
    record {
      order = omega arith;
      inside = omega arith;
      size = first ∙ ap (λ (ls : Lines). length (text_of ls)) (sym none);
      front = ap (λ (k : ℕ). take k t.content.items) first ∙ ap text_of (sym none);
      back = drop_of_length-le t.content.items (omega arith) ∙ ap text_of (sym last);
      places = ap (λ (k : ℕ). take k t.lines.items) ef ∙ ap (spans_from 0) (sym none);
      behind = past ∙ ap (spans_from cut.end) (sym last);
    }

pub ends_of : (t : JsonTable) (m : Middle) (cut : Cut) (lines : Lines) → Replaces t m lines → IsCut t m.from m.to cut → Ends t m.from m.to cut
ends_of t m cut lines is cuts = go t.is_image refl
  where
    go : (b : Bool) → t.is_image ≡ b → Ends t m.from m.to cut
    go true e = ends_written t m.from m.to cut e is.order is.within cuts
    go false e = (let w = is.whole e in ends_other t m.from m.to cut e w.0 w.1 cuts)

-- the parts of some lines, one behind the other
three : (a b c : Lines) → text_of (a ++ b ++ c) ≡ text_of a ++ text_of b ++ text_of c
three a b c = text_both (a ++ b) c ∙ ap (λ (bytes : List ℕ). bytes ++ text_of c) (text_both a b)

three_places : (a b c : Lines) (first base : ℕ) → first ≡ length (text_of a) → base ≡ first + length (text_of b)
    → spans_from 0 (a ++ b ++ c) ≡ spans_from 0 a ++ spans_from first b ++ spans_from base c
three_places a b c first base ef eb =
    let one : 0 + length (text_of a) ≡ first = omega arith in
    let size = ap length (text_both a b) ∙ length-append (text_of a) (text_of b) in
    let two : 0 + length (text_of (a ++ b)) ≡ base = omega arith in
    places_both 0 (a ++ b) c ∙ ap (λ (n : ℕ). spans_from 0 (a ++ b) ++ spans_from n c) two
    ∙ ap (λ (ss : List Span). ss ++ spans_from base c) (places_both 0 a b ∙ ap (λ (n : ℕ). spans_from 0 a ++ spans_from n b) one)

-- the sizes of the lines after a write
pub replaced_sizes : (t : JsonTable) (m : Middle) (cut : Cut) (lines : Lines) → Replaces t m lines → Ends t m.from m.to cut
    → (length lines ≡ m.from + length m.made.image.lines.items + (length t.lines.items - m.to))
    × (length (text_of lines) ≡ cut.first + length m.made.image.content.items + (length t.content.items - cut.end))
replaced_sizes t m cut lines is ends =
    let all = lines_in t in
    let a = take m.from all in
    let c = drop m.to all in
    let many = lines_count t in
    let o = is.order in
    let w = is.within in
    let la : length a ≡ m.from = length-take-le m.from all (omega arith) in
    let lc = length-drop m.to all in
    let lm = ap length is.written.0.places ∙ places_count 0 is.middle in
    let l = ap length is.are ∙ length-append (a ++ is.middle) c in
    let lab = length-append a is.middle in
    let text = ap (λ (ls : Lines). length (text_of ls)) is.are ∙ ap length (three a is.middle c) ∙ length-append (text_of a ++ text_of is.middle) (text_of c) in
    let tab = length-append (text_of a) (text_of is.middle) in
    let tm = ap length is.written.0.text in
    let tc = sym (ap length ends.back) ∙ length-drop cut.end t.content.items in
    let ta = ends.size in
    (omega arith, omega arith)

-- rows of lines, as large as these
pub size_of_lines : (t : JsonTable) (lines : Lines) (rows bytes : ℕ) → length lines ≡ rows → length (text_of lines) ≡ bytes
    → image_too_large (rows_of_lines (readers_in t) lines) ≡ is_too_large rows bytes
size_of_lines t lines rows bytes er eb =
    ap (λ (n : ℕ). is_too_large n (length (text_of (lines_held (rows_of_lines (readers_in t) lines))))) (length_rows (readers_in t) lines ∙ er)
    ∙ ap (λ (ls : Lines). is_too_large rows (length (text_of ls))) (lines_back (readers_in t) lines) ∙ ap (is_too_large rows) eb

-- places of a middle, moved to where it comes
pub middle_moves : (t : JsonTable) (m : Middle) (cut : Cut) (lines : Lines) → Replaces t m lines
    → cut.first + length m.made.image.content.items < 2 ^ 64 → list_all (is_movable 0 cut.first) m.made.image.lines.items ≡ true
middle_moves t m cut lines is lt =
    let size = ap length is.written.0.text in
    ap (list_all (is_movable 0 cut.first)) is.written.0.places ∙ movable 0 cut.first 0 is.middle (omega arith) (omega arith)

-- a list of which the first items are changed, and the next one
pub set_next : {X : Type 0} (f : X → X) (xs changed : List X) (i : ℕ) (d y : X) → i < length xs → changed ≡ map f (take i xs) ++ drop i xs
    → y ≡ f (get_or changed i d) → slice_set changed i y ≡ map f (take (i + 1) xs) ++ drop (i + 1) xs
set_next {X} f xs changed i d y lt ec ey =
    let one : suc i ≡ i + 1 = omega arith in
    ap (λ (ys : List X). slice_set ys i y) ec ∙ go xs i lt (ey ∙ ap (λ (ys : List X). f (get_or ys i d)) ec)
    ∙ ap (λ (n : ℕ). map f (take n xs) ++ drop n xs) one
  where
    go : (xs : List X) (i : ℕ) → i < length xs → y ≡ f (get_or (map f (take i xs) ++ drop i xs) i d)
        → slice_set (map f (take i xs) ++ drop i xs) i y ≡ map f (take (suc i) xs) ++ drop (suc i) xs
    go [] i lt e = absurd (omega arith)
    go (x ∷ xs) zero lt e = ap (λ (z : X). z ∷ xs) e
    go (x ∷ xs) (suc i) lt e = ap (λ (zs : List X). f x ∷ zs) (go xs i (omega arith) e)

-- what holds of the items from a place on holds of those from the next one on
pub rest_all : {X : Type 0} (test : X → Bool) (xs : List X) (i : ℕ) → list_all test (drop i xs) ≡ true → list_all test (drop (i + 1) xs) ≡ true
rest_all {X} test xs i e =
    let one : i + 1 ≡ suc i = omega arith in
    ap (λ (n : ℕ). list_all test (drop n xs)) one ∙ go xs i e
  where
    second : (a b : Bool) → (a && b) ≡ true → b ≡ true
    second true b e = e
    second false b e = absurd cc

    go : (xs : List X) (i : ℕ) → list_all test (drop i xs) ≡ true → list_all test (drop (suc i) xs) ≡ true
    go [] zero e = e
    go [] (suc i) e = e
    go (x ∷ xs) zero e = second (test x) (list_all test xs) e
    go (x ∷ xs) (suc i) e = go xs i e

-- what is exchanged
pub exchanged : (t : JsonTable) (m : Middle) (cut : Cut) (x : Exchange) (lines : Lines) → Replaces t m lines → Ends t m.from m.to cut
    → x.from ≡ m.from → x.to ≡ m.to → x.first ≡ cut.first → x.end ≡ cut.end → x.base ≡ cut.first + length m.made.image.content.items
    → x.made.image.content.items ≡ m.made.image.content.items → x.made.image.lines.items ≡ map (moved 0 cut.first) m.made.image.lines.items
    → x.made.wholes.items ≡ m.made.wholes.items
    → cut.first + length m.made.image.content.items + (length t.content.items - cut.end) < 2 ^ 64 → Exchanges t x lines
exchanged t m cut x lines is ends ef et e1 ee eb ec el ew lt =
    let all = lines_in t in
    let a = take m.from all in
    let c = drop m.to all in
    let bytes = t.content.items in
    let spans = t.lines.items in
    let made = m.made.image in
    let size = ap length is.written.0.text in
    let first = ends.size in
    let base : x.base ≡ cut.first + length (text_of is.middle) = omega arith in
    let tail = sym (ap length ends.back) ∙ length-drop cut.end bytes in
    let text : take x.first bytes ++ x.made.image.content.items ++ drop x.end bytes ≡ text_of a ++ text_of is.middle ++ text_of c =
    ap (λ (k : ℕ). take k bytes ++ x.made.image.content.items ++ drop x.end bytes) e1
    ∙ ap (λ (k : ℕ). take cut.first bytes ++ x.made.image.content.items ++ drop k bytes) ee
    ∙ ap (λ (bs : List ℕ). take cut.first bytes ++ bs ++ drop cut.end bytes) (ec ∙ is.written.0.text)
    ∙ ap (λ (bs : List ℕ). bs ++ text_of is.middle ++ drop cut.end bytes) ends.front
    ∙ ap (λ (bs : List ℕ). text_of a ++ text_of is.middle ++ bs) ends.back in
    let from_first : 0 - 0 + cut.first ≡ cut.first = omega arith in
    let mid : x.made.image.lines.items ≡ spans_from cut.first is.middle =
    el ∙ ap (map (moved 0 cut.first)) is.written.0.places ∙ moves 0 cut.first 0 is.middle (omega arith)
    ∙ ap (λ (n : ℕ). spans_from n is.middle) from_first in
    let from_base : cut.end - cut.end + x.base ≡ x.base = omega arith in
    let behind : map (moved x.end x.base) (drop x.to spans) ≡ spans_from x.base c =
    ap (λ (k : ℕ). map (moved k x.base) (drop x.to spans)) ee ∙ ap (λ (k : ℕ). map (moved cut.end x.base) (drop k spans)) et
    ∙ ap (map (moved cut.end x.base)) ends.behind ∙ moves cut.end x.base cut.end c (omega arith)
    ∙ ap (λ (n : ℕ). spans_from n c) from_base in
    let places : take x.from spans ++ x.made.image.lines.items ++ map (moved x.end x.base) (drop x.to spans)
    ≡ spans_from 0 a ++ spans_from cut.first is.middle ++ spans_from x.base c =
    ap (λ (k : ℕ). take k spans ++ x.made.image.lines.items ++ map (moved x.end x.base) (drop x.to spans)) ef
    ∙ ap (λ (ss : List Span). ss ++ x.made.image.lines.items ++ map (moved x.end x.base) (drop x.to spans)) ends.places
    ∙ ap (λ (ss : List Span). spans_from 0 a ++ ss ++ map (moved x.end x.base) (drop x.to spans)) mid
    ∙ ap (λ (ss : List Span). spans_from 0 a ++ spans_from cut.first is.middle ++ ss) behind in
    record {
      order = (let o = is.order in omega arith);
      within = (let w = is.within in omega arith);
      cut = (let o = ends.order in omega arith);
      inside = (let i = ends.inside in omega arith);
      image = record {
        text = text ∙ sym (three a is.middle c) ∙ ap text_of (sym is.are);
        places = places ∙ sym (three_places a is.middle c cut.first x.base first base) ∙ ap (spans_from 0) (sym is.are);
      };
      movable = ap (λ (k : ℕ). list_all (is_movable k x.base) (drop x.to spans)) ee ∙ ap (λ (k : ℕ). list_all (is_movable cut.end x.base) (drop k spans)) et
          ∙ ap (list_all (is_movable cut.end x.base)) ends.behind ∙ movable cut.end x.base cut.end c (omega arith) (omega arith);
      middle = is.middle;
      kept = ap (map whole_is) ew ∙ is.written.1;
      are = is.are ∙ ap (λ (k : ℕ). take k all ++ is.middle ++ c) (sym ef) ∙ ap (λ (k : ℕ). take x.from all ++ is.middle ++ drop k all) (sym et);
    }

-- what the integer columns read after it
pub wholes_exchanged : (t : JsonTable) (x : Exchange) (lines : Lines) → Exchanges t x lines
    → map whole_is (take (x.from * length (whole_readers (readers_in t))) t.wholes.items ++ x.made.wholes.items
    ++ drop (x.to * length (whole_readers (readers_in t))) t.wholes.items) ≡ wholes_of (readers_in t) lines
wholes_exchanged t x lines is =
    let readers = readers_in t in
    let all = lines_in t in
    let w = length (whole_readers readers) in
    let a = take (x.from * w) t.wholes.items in
    let b = x.made.wholes.items in
    let c = drop (x.to * w) t.wholes.items in
    let first : map whole_is a ≡ wholes_of readers (take x.from all) =
    map_take whole_is (x.from * w) t.wholes.items ∙ ap (take (x.from * w)) t.kept ∙ wholes_take readers all x.from in
    let last : map whole_is c ≡ wholes_of readers (drop x.to all) =
    map_drop whole_is (x.to * w) t.wholes.items ∙ ap (drop (x.to * w)) t.kept ∙ wholes_drop readers all x.to in
    let parts : wholes_of readers (take x.from all ++ is.middle ++ drop x.to all)
    ≡ wholes_of readers (take x.from all) ++ wholes_of readers is.middle ++ wholes_of readers (drop x.to all) =
    flat_map-append (wholes_at readers) (take x.from all ++ is.middle) (drop x.to all)
    ∙ ap (λ (vs : Tuple). vs ++ wholes_of readers (drop x.to all)) (flat_map-append (wholes_at readers) (take x.from all) is.middle) in
    map-append whole_is (a ++ b) c ∙ ap (λ (vs : Tuple). vs ++ map whole_is c) (map-append whole_is a b)
    ∙ ap (λ (vs : Tuple). vs ++ map whole_is b ++ map whole_is c) first
    ∙ ap (λ (vs : Tuple). wholes_of readers (take x.from all) ++ vs ++ map whole_is c) is.kept
    ∙ ap (λ (vs : Tuple). wholes_of readers (take x.from all) ++ wholes_of readers is.middle ++ vs) last
    ∙ sym parts ∙ ap (wholes_of readers) (sym is.are)

-- an image of the lines that stand at its places
pub stands_as : (content next : List ℕ) (spans after : List Span) (lines : Lines) → next ≡ content → after ≡ spans → IsImage content spans lines
    → IsImage next after (lines_at next after)
stands_as content next spans after lines ec es is =
    let moved_on : IsImage next after lines = record { text = ec ∙ is.text; places = es ∙ is.places } in
    subst (IsImage next after) (sym (image_stands next after lines moved_on)) moved_on

pub lines_are : (content next : List ℕ) (spans after : List Span) (lines : Lines) → next ≡ content → after ≡ spans → IsImage content spans lines
    → lines_at next after ≡ lines
lines_are content next spans after lines ec es is = image_stands next after lines (record { text = ec ∙ is.text; places = es ∙ is.places })
