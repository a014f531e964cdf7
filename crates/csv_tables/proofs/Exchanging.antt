-- Fields of which a range is replaced by others.
use Rattle.std.proofs.Common.{◌≡◌, ℕ, zero, suc, ◌+◌, ◌-◌, ◌<◌, ◌≤◌, ◌^◌, List, [], ◌∷◌, ◌++◌, length, map, take, drop, get_or, slice_set, refl, ap, sym, ◌∙◌, arith}
use Rattle.std.specs.List.{flat_map}
use Rattle.std.proofs.lemmas.List.{length-append, length-drop, length-take-le, take_all, drop_all, append-nil}
use Rattle.csv.specs.Records.{Rising, cut_from, last_end, prev}
use Rattle.csv.proofs.RecordFacts.{rising-more, cut-take, cut-length, prev-first}
use Rattle.csv_tables.specs.Held.{moved, CanMove}
use Rattle.csv_tables.proofs.Moving.{prev_within, rising_first, last_first, cut_first, closed, range_text, moved_rising, moved_fields, moved_last, text_range}

-- each place is from the first one on, and none is beyond the text
pub rising_each : (s : ℕ) (ends : List ℕ) (size k : ℕ) → Rising s ends size → k < length ends → (s ≤ get_or ends k 0) × (get_or ends k 0 ≤ size)
unfolding Rising
rising_each s [] size k h lt = absurd (omega arith)
rising_each s (e ∷ es) size zero h lt = (h.0, first e es h.1)
  where
    first : (e : ℕ) (es : List ℕ) → Rising e es size → e ≤ size
    first e [] g = g
    first e (f ∷ fs) g = let l = g.0 in let r = first f fs g.1 in omega arith
rising_each s (e ∷ es) size (suc k) h lt =
    let r = rising_each e es size k h.1 (omega arith) in
    let l = h.0 in
    let low = r.0 in (omega arith, r.1)

-- places that rise up to the end of a text can be moved where the text's end fits
pub can_move : (from to size : ℕ) (places : List ℕ) → Rising from places size → moved from to size < 2 ^ 32 → CanMove from to places
can_move from to size places h fits = λ k lt. (
  (rising_each from places size k h lt).0,
  (let r = rising_each from places size k h lt in let low = r.0 in let high = r.1 in omega arith),
)

-- one place more is moved
pub place_there : (f : ℕ → ℕ) (xs : List ℕ) (i d : ℕ) → i < length xs → get_or (map f (take i xs) ++ drop i xs) i d ≡ get_or xs i d
place_there f [] i d lt = absurd (omega arith)
place_there f (x ∷ xs) zero d lt = refl
place_there f (x ∷ xs) (suc i) d lt = place_there f xs i d (omega arith)

pub place_moved : (f : ℕ → ℕ) (xs : List ℕ) (i d : ℕ) → i < length xs
    → slice_set (map f (take i xs) ++ drop i xs) i (f (get_or xs i d)) ≡ map f (take (suc i) xs) ++ drop (suc i) xs
place_moved f [] i d lt = absurd (omega arith)
place_moved f (x ∷ xs) zero d lt = refl
place_moved f (x ∷ xs) (suc i) d lt = ap (λ (l : List ℕ). f x ∷ l) (place_moved f xs i d (omega arith))

pub all_moved : (f : ℕ → ℕ) (xs : List ℕ) (i : ℕ) → length xs ≤ i → map f (take i xs) ++ drop i xs ≡ map f xs
all_moved f [] zero le = refl
all_moved f [] (suc i) le = refl
all_moved f (x ∷ xs) zero le = absurd (omega arith)
all_moved f (x ∷ xs) (suc i) le = ap (λ (l : List ℕ). f x ∷ l) (all_moved f xs i (omega arith))

-- places that are moved nowhere
pub none_moved : (from : ℕ) (xs : List ℕ) → ((k : ℕ) → k < length xs → from ≤ get_or xs k 0) → map (moved from from) xs ≡ xs
none_moved from [] low = refl
none_moved from (x ∷ xs) low =
    let le : from ≤ x = low 0 (omega arith) in
    let here : moved from from x ≡ x = omega arith in
    ap (λ (k : ℕ). k ∷ map (moved from from) xs) here ∙ ap (λ (l : List ℕ). x ∷ l) (none_moved from xs (λ k lt. low (suc k) (omega arith)))

-- a list of which all items from an index on were written
pub written_behind : (n first : ℕ) (items new : List ℕ) → n ≡ length items → first ≤ length items → length new ≡ length (drop first items)
    → take n ((take first items ++ (new ++ drop (length new) (drop first items))) ++ drop (length (take first items ++ (new ++ drop (length new) (drop first items)))) items) ≡ take first items ++ new
written_behind n first items new en le size =
    let none : drop (length new) (drop first items) ≡ [] = drop_all (length new) (drop first items) (omega arith) in
    let is : take first items ++ (new ++ drop (length new) (drop first items)) ≡ take first items ++ new =
    ap (λ (l : List ℕ). take first items ++ (new ++ l)) none ∙ ap (λ (l : List ℕ). take first items ++ l) (append-nil new) in
    let d = length-drop first items in
    let t = length-take-le first items le in
    let a = length-append (take first items) new in
    ap (λ (l : List ℕ). take n (l ++ drop (length l) items)) is
    ∙ ap (λ (l : List ℕ). take n ((take first items ++ new) ++ l)) (drop_all (length (take first items ++ new)) items (omega arith))
    ∙ ap (take n) (append-nil (take first items ++ new)) ∙ take_all n (take first items ++ new) (omega arith)

-- fields behind others, of which the places are counted from this one
behind_rising : (xends xbytes ends bytes : List ℕ) (from to s : ℕ) (range text : List ℕ) → Rising 0 xends (length xbytes) → last_end 0 xends ≡ length xbytes
    → Rising 0 ends (length bytes) → from ≤ to → to ≤ length ends → s ≡ prev 0 ends from → range ≡ take (to - from) (drop from ends) → text ≡ range_text ends bytes from to
    → Rising 0 (xends ++ map (moved s (length xbytes)) range) (length (xbytes ++ text))
behind_rising xends xbytes ends bytes from to s range text h whole g order within es er et = rw (es, er, et) (moved_rising xends xbytes ends bytes from to h whole g order within)

behind_fields : (xends xbytes ends bytes : List ℕ) (from to s : ℕ) (range text : List ℕ) → Rising 0 xends (length xbytes) → last_end 0 xends ≡ length xbytes
    → Rising 0 ends (length bytes) → from ≤ to → to ≤ length ends → s ≡ prev 0 ends from → range ≡ take (to - from) (drop from ends) → text ≡ range_text ends bytes from to
    → cut_from 0 (xends ++ map (moved s (length xbytes)) range) (xbytes ++ text) ≡ cut_from 0 xends xbytes ++ take (to - from) (drop from (cut_from 0 ends bytes))
behind_fields xends xbytes ends bytes from to s range text h whole g order within es er et = rw (es, er, et) (moved_fields xends xbytes ends bytes from to h whole g order within)

behind_last : (xends xbytes ends bytes : List ℕ) (from to s : ℕ) (range text : List ℕ) → last_end 0 xends ≡ length xbytes
    → Rising 0 ends (length bytes) → from ≤ to → to ≤ length ends → s ≡ prev 0 ends from → range ≡ take (to - from) (drop from ends) → text ≡ range_text ends bytes from to
    → drop (last_end 0 (xends ++ map (moved s (length xbytes)) range)) (xbytes ++ text) ≡ []
behind_last xends xbytes ends bytes from to s range text whole g order within es er et = rw (es, er, et) (moved_last xends xbytes ends bytes from to whole g order within)

-- the places from one on up to the last, and the text behind it
rest_places : (ends : List ℕ) (to : ℕ) → drop to ends ≡ take (length ends - to) (drop to ends)
rest_places ends to = let d = length-drop to ends in sym (take_all (length ends - to) (drop to ends) (omega arith))

rest_fields : (ends bytes : List ℕ) (to : ℕ) → take (length ends - to) (drop to (cut_from 0 ends bytes)) ≡ drop to (cut_from 0 ends bytes)
rest_fields ends bytes to =
    let d = length-drop to (cut_from 0 ends bytes) in
    let n = cut-length 0 ends bytes in
    take_all (length ends - to) (drop to (cut_from 0 ends bytes)) (omega arith)

prev_last : (ends : List ℕ) → prev 0 ends (length ends) ≡ last_end 0 ends
prev_last ends = sym (last_first 0 ends (length ends) (omega arith)) ∙ ap (last_end 0) (take_all (length ends) ends (omega arith))

rest_text : (ends bytes : List ℕ) (to : ℕ) → last_end 0 ends ≡ length bytes → drop (prev 0 ends to) bytes ≡ range_text ends bytes to (length ends)
rest_text ends bytes to whole =
    let d = length-drop (prev 0 ends to) bytes in
    let l = prev_last ends in
    sym (take_all (prev 0 ends (length ends) - prev 0 ends to) (drop (prev 0 ends to) bytes) (omega arith))

-- fields in which those from a place up to another are replaced by others
pub record IsReplaced (ends bytes mends mbytes : List ℕ) (from to : ℕ) (xends xbytes : List ℕ) : Type 0 where
  pub rising : Rising 0 xends (length xbytes)
  pub fields : cut_from 0 xends xbytes ≡ take from (cut_from 0 ends bytes) ++ cut_from 0 mends mbytes ++ drop to (cut_from 0 ends bytes)
  pub none : drop (last_end 0 xends) xbytes ≡ []

-- the fields in front
record IsFront (ends bytes : List ℕ) (from : ℕ) : Type 0 where
  rising : Rising 0 (take from ends) (length (take (prev 0 ends from) bytes))
  fields : cut_from 0 (take from ends) (take (prev 0 ends from) bytes) ≡ take from (cut_from 0 ends bytes)
  last : last_end 0 (take from ends) ≡ length (take (prev 0 ends from) bytes)
  size : length (take (prev 0 ends from) bytes) ≡ prev 0 ends from

front : (ends bytes : List ℕ) (from : ℕ) → Rising 0 ends (length bytes) → from ≤ length ends → IsFront ends bytes from
front ends bytes from h le =
    let w = (prev_within 0 ends (length bytes) from h).1 in
    let size : length (take (prev 0 ends from) bytes) ≡ prev 0 ends from = length-take-le (prev 0 ends from) bytes w in
    let l = last_first 0 ends from le in
    let r = rising_first 0 ends (length bytes) from h le in
    record {
      rising = rw size r;
      fields = cut-take 0 (take from ends) bytes (prev 0 ends from) (rising-more 0 (take from ends) (prev 0 ends from) (length bytes) r w) (omega arith) w ∙ sym (cut_first 0 ends bytes from);
      last = l ∙ sym size;
      size = size;
    }

pub replaced : (ends bytes mends mbytes : List ℕ) (from to new : ℕ) → Rising 0 ends (length bytes) → last_end 0 ends ≡ length bytes → Rising 0 mends (length mbytes) → last_end 0 mends ≡ length mbytes
    → from ≤ to → to ≤ length ends → new ≡ prev 0 ends from + length mbytes
    → IsReplaced ends bytes mends mbytes from to
    (take from ends ++ map (moved 0 (prev 0 ends from)) mends ++ map (moved (prev 0 ends to) new) (drop to ends))
    (take (prev 0 ends from) bytes ++ mbytes ++ drop (prev 0 ends to) bytes)
replaced ends bytes mends mbytes from to new h whole g mwhole order within en =
    let f = front ends bytes from h (omega arith) in
    let base = prev 0 ends from in
    let xends = take from ends in
    let xbytes = take base bytes in
    let m = length mends in
    let zero_is : 0 ≡ prev 0 mends 0 = sym (prev-first mends) in
    let none : 0 ≤ m = omega arith in
    let all : m ≤ length mends = omega arith in
    let range : mends ≡ take (m - 0) (drop 0 mends) = rest_places mends 0 in
    let text : mbytes ≡ range_text mends mbytes 0 m = sym (ap (λ (k : ℕ). drop k mbytes) (prev-first mends)) ∙ rest_text mends mbytes 0 mwhole in
    let yends = xends ++ map (moved 0 (length xbytes)) mends in
    let ybytes = xbytes ++ mbytes in
    let yrising = behind_rising xends xbytes mends mbytes 0 m 0 mends mbytes f.rising f.last g none all zero_is range text in
    let yfields = behind_fields xends xbytes mends mbytes 0 m 0 mends mbytes f.rising f.last g none all zero_is range text in
    let ylast = closed yends ybytes yrising (behind_last xends xbytes mends mbytes 0 m 0 mends mbytes f.last g none all zero_is range text) in
    let n = length ends in
    let last : n ≤ length ends = omega arith in
    let back = drop to ends in
    let btext = drop (prev 0 ends to) bytes in
    let zrising = behind_rising yends ybytes ends bytes to n (prev 0 ends to) back btext yrising ylast h within last refl (rest_places ends to) (rest_text ends bytes to whole) in
    let zfields = behind_fields yends ybytes ends bytes to n (prev 0 ends to) back btext yrising ylast h within last refl (rest_places ends to) (rest_text ends bytes to whole) in
    let zlast = behind_last yends ybytes ends bytes to n (prev 0 ends to) back btext ylast h within last refl (rest_places ends to) (rest_text ends bytes to whole) in
    let size : length ybytes ≡ new = length-append xbytes mbytes ∙ ap (λ (k : ℕ). k + length mbytes) f.size ∙ sym en in
    let ends_are : yends ++ map (moved (prev 0 ends to) (length ybytes)) back ≡ xends ++ map (moved 0 base) mends ++ map (moved (prev 0 ends to) new) back =
    ap (λ (k : ℕ). yends ++ map (moved (prev 0 ends to) k) back) size
    ∙ ap (λ (k : ℕ). (xends ++ map (moved 0 k) mends) ++ map (moved (prev 0 ends to) new) back) f.size in
    let fields_are : cut_from 0 yends ybytes ++ take (n - to) (drop to (cut_from 0 ends bytes)) ≡ take from (cut_from 0 ends bytes) ++ cut_from 0 mends mbytes ++ drop to (cut_from 0 ends bytes) =
    ap (λ (l : List (List ℕ)). cut_from 0 yends ybytes ++ l) (rest_fields ends bytes to)
    ∙ ap (λ (l : List (List ℕ)). l ++ drop to (cut_from 0 ends bytes)) (yfields ∙ ap (λ (l : List (List ℕ)). l ++ take (m - 0) (drop 0 (cut_from 0 mends mbytes))) f.fields
    ∙ ap (λ (l : List (List ℕ)). take from (cut_from 0 ends bytes) ++ l) (rest_fields mends mbytes 0)) in
    record {
      rising = rw ends_are at zrising;
      fields = rw ends_are at (zfields ∙ fields_are);
      none = rw ends_are at zlast;
    }

-- the whole text of fields behind which nothing is left
pub whole_text : (ends bytes : List ℕ) → Rising 0 ends (length bytes) → drop (last_end 0 ends) bytes ≡ [] → bytes ≡ flat_map (λ f. f) (cut_from 0 ends bytes)
whole_text ends bytes h none =
    let l = closed ends bytes h none in
    let p = prev-first ends in
    let all = rest_text ends bytes 0 l in
    sym (ap (λ (k : ℕ). drop k bytes) p) ∙ all ∙ sym (text_range ends bytes 0 (length ends) h (omega arith) (omega arith)) ∙ ap (flat_map (λ f. f)) (rest_fields ends bytes 0)

-- three lists one behind the other, and fields that are the same
pub three_are : (a b p x y q : List ℕ) → a ≡ x → b ≡ y → p ≡ q → a ++ b ++ p ≡ x ++ y ++ q
three_are a b p x y q ea eb ep = rw (ea, eb, ep) refl

pub replaced_as : (ends bytes mends mbytes : List ℕ) (from to : ℕ) (xends xbytes yends ybytes : List ℕ) → IsReplaced ends bytes mends mbytes from to xends xbytes
    → yends ≡ xends → ybytes ≡ xbytes → IsReplaced ends bytes mends mbytes from to yends ybytes
replaced_as ends bytes mends mbytes from to xends xbytes yends ybytes h e f = rw (e, f) h

pub rising_as : (ends bytes xends xbytes : List ℕ) → Rising 0 ends (length bytes) → xends ≡ ends → xbytes ≡ bytes → Rising 0 xends (length xbytes)
rising_as ends bytes xends xbytes h e f = rw (e, f) h

pub can_move_as : (from to : ℕ) (places others : List ℕ) → CanMove from to places → others ≡ places → CanMove from to others
can_move_as from to places others h e = rw e h
