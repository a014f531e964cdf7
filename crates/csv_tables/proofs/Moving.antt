-- Fields that are cut from a text: a range of them, and such a range in another text.
use Rattle.std.proofs.Common.{◌≡◌, ℕ, zero, suc, ◌+◌, ◌-◌, ◌<◌, ◌≤◌, List, [], ◌∷◌, ◌++◌, length, map, take, drop, get_or, Some, refl, ap, sym, ◌∙◌, subst, arith}
use Rattle.std.specs.List.{flat_map}
use Rattle.std.proofs.lemmas.List.{length-map, length-append, length-drop, length-take-le, drop-drop, drop-take, take-take, drop_at, drop_all}
use Rattle.csv.specs.Records.{Row, Rising, cut_from, field_at, fields_of, last_end, prev}
use Rattle.csv.proofs.RecordFacts.{rising-first, rising-last, cut-length, cut-more, field-bounds, field-cut}
use Rattle.csv_tables.specs.Held.{but_last, held_of, moved}

-- how many fields a text holds
pub held_size : (r : Row) → length (held_of r) ≡ length r.ends
held_size r = length-map (fields_of r) but_last ∙ cut-length 0 r.ends r.bytes

-- the field at a place, without the byte that ends it
field_mapped : (fs : List (List ℕ)) (i : ℕ) (f : List ℕ) → field_at fs i ≡ Some f → field_at (map but_last fs) i ≡ Some (but_last f)
unfolding field_at
field_mapped [] i f e = absurd cc
field_mapped (x ∷ fs) zero f e = let s : x ≡ f = cc in ap (λ (y : List ℕ). Some (but_last y)) s
field_mapped (x ∷ fs) (suc i) f e = field_mapped fs i f e

pub held_field : (ends bytes : List ℕ) (i : ℕ) → Rising 0 ends (length bytes) → i < length ends
    → field_at (held_of (record { bytes = bytes; ends = ends })) i
    ≡ Some (take ((prev 0 ends i + ((get_or ends i 0 - prev 0 ends i) - 1)) - prev 0 ends i) (drop (prev 0 ends i) bytes))
held_field ends bytes i h lt =
    let b = field-bounds 0 ends (length bytes) i h lt in
    let low = b.0 in
    let high = b.1 in
    let d = length-drop (prev 0 ends i) bytes in
    let size : length (take (get_or ends i 0 - prev 0 ends i) (drop (prev 0 ends i) bytes)) ≡ get_or ends i 0 - prev 0 ends i =
    length-take-le (get_or ends i 0 - prev 0 ends i) (drop (prev 0 ends i) bytes) (omega arith) in
    let n : length (take (get_or ends i 0 - prev 0 ends i) (drop (prev 0 ends i) bytes)) - 1 ≡ (prev 0 ends i + ((get_or ends i 0 - prev 0 ends i) - 1)) - prev 0 ends i = omega arith in
    let few : (prev 0 ends i + ((get_or ends i 0 - prev 0 ends i) - 1)) - prev 0 ends i ≤ get_or ends i 0 - prev 0 ends i = omega arith in
    field_mapped (cut_from 0 ends bytes) i _ (field-cut 0 ends bytes i lt)
    ∙ ap (λ (k : ℕ). Some (take k (take (get_or ends i 0 - prev 0 ends i) (drop (prev 0 ends i) bytes)))) n
    ∙ ap (λ (l : List ℕ). Some l) (take-take _ (get_or ends i 0 - prev 0 ends i) (drop (prev 0 ends i) bytes) few)

-- where a field begins
pub prev_next : (s : ℕ) (ends : List ℕ) (i d : ℕ) → i < length ends → prev s ends (i + 1) ≡ get_or ends i d
unfolding prev
prev_next s [] i d lt = absurd (omega arith)
prev_next s (e ∷ []) zero d lt = refl
prev_next s (e ∷ []) (suc i) d lt = absurd (omega arith)
prev_next s (e ∷ f ∷ es) zero d lt = refl
prev_next s (e ∷ f ∷ es) (suc i) d lt =
    let p : suc i + 1 ≡ suc (i + 1) = omega arith in
    ap (prev s (e ∷ f ∷ es)) p ∙ prev_next e (f ∷ es) i d (omega arith)

pub prev_within : (s : ℕ) (ends : List ℕ) (size i : ℕ) → Rising s ends size → (s ≤ prev s ends i) × (prev s ends i ≤ size)
unfolding prev Rising
prev_within s [] size i h = (omega arith, h)
prev_within s (e ∷ es) size zero h = let first = rising-first e es size h.1 in let l = h.0 in (omega arith, omega arith)
prev_within s (e ∷ es) size (suc i) h = let p = prev_within e es size i h.1 in let l = h.0 in let q = p.0 in (omega arith, p.1)

pub prev_order : (s : ℕ) (ends : List ℕ) (size i j : ℕ) → Rising s ends size → i ≤ j → prev s ends i ≤ prev s ends j
unfolding prev Rising
prev_order s [] size i j h le = omega arith
prev_order s (e ∷ es) size zero j h le = (prev_within s (e ∷ es) size j h).0
prev_order s (e ∷ es) size (suc i) zero h le = absurd (omega arith)
prev_order s (e ∷ es) size (suc i) (suc j) h le = prev_order e es size i j h.1 (omega arith)

-- the fields from a place on
cut_past : (s : ℕ) (ends bytes : List ℕ) (n : ℕ) → n ≤ length ends → drop n (cut_from s ends bytes) ≡ cut_from (prev s ends n) (drop n ends) bytes
unfolding prev cut_from
cut_past s [] bytes zero le = refl
cut_past s [] bytes (suc n) le = absurd (omega arith)
cut_past s (e ∷ es) bytes zero le = refl
cut_past s (e ∷ es) bytes (suc n) le = cut_past e es bytes n (omega arith)

pub cut_first : (s : ℕ) (ends bytes : List ℕ) (n : ℕ) → take n (cut_from s ends bytes) ≡ cut_from s (take n ends) bytes
unfolding cut_from
cut_first s ends bytes zero = refl
cut_first s [] bytes (suc n) = refl
cut_first s (e ∷ es) bytes (suc n) = ap (λ (l : List (List ℕ)). take (e - s) (drop s bytes) ∷ l) (cut_first e es bytes n)

pub cut_range : (s : ℕ) (ends bytes : List ℕ) (from n : ℕ) → from ≤ length ends
    → take n (drop from (cut_from s ends bytes)) ≡ cut_from (prev s ends from) (take n (drop from ends)) bytes
cut_range s ends bytes from n le = ap (take n) (cut_past s ends bytes from le) ∙ cut_first (prev s ends from) (drop from ends) bytes n

-- the bytes of fields that stand together
take_both : (a b : ℕ) (l : List ℕ) → take a l ++ take b (drop a l) ≡ take (a + b) l
take_both zero b l = let e : b ≡ zero + b = omega arith in ap (λ (k : ℕ). take k l) e
take_both (suc a) b [] = none b ∙ sym (none (suc a + b))
  where
    none : (k : ℕ) → take {A = ℕ} k [] ≡ []
    none zero = refl
    none (suc k) = refl
take_both (suc a) b (x ∷ l) =
    let e : suc (a + b) ≡ suc a + b = omega arith in
    ap (λ (m : List ℕ). x ∷ m) (take_both a b l) ∙ ap (λ (k : ℕ). take k (x ∷ l)) e

text_first : (s : ℕ) (ends bytes : List ℕ) (n : ℕ) → Rising s ends (length bytes) → n ≤ length ends
    → flat_map (λ f. f) (take n (cut_from s ends bytes)) ≡ take (prev s ends n - s) (drop s bytes)
unfolding prev cut_from Rising
text_first s [] bytes zero h le = let z : s - s ≡ 0 = omega arith in ap (λ (k : ℕ). take k (drop s bytes)) (sym z)
text_first s [] bytes (suc n) h le = absurd (omega arith)
text_first s (e ∷ es) bytes zero h le = let z : s - s ≡ 0 = omega arith in ap (λ (k : ℕ). take k (drop s bytes)) (sym z)
text_first s (e ∷ es) bytes (suc n) h le =
    let l = h.0 in
    let p = (prev_within e es (length bytes) n h.1).0 in
    let there : s + (e - s) ≡ e = omega arith in
    let all : (e - s) + (prev e es n - e) ≡ prev e es n - s = omega arith in
    ap (λ (m : List ℕ). take (e - s) (drop s bytes) ++ m) (text_first e es bytes n h.1 (omega arith))
    ∙ ap (λ (m : List ℕ). take (e - s) (drop s bytes) ++ take (prev e es n - e) m) (sym (drop-drop (e - s) s bytes ∙ ap (λ (k : ℕ). drop k bytes) there))
    ∙ take_both (e - s) (prev e es n - e) (drop s bytes)
    ∙ ap (λ (k : ℕ). take k (drop s bytes)) all

prev_past : (s : ℕ) (ends : List ℕ) (n k : ℕ) → n ≤ length ends → prev (prev s ends n) (drop n ends) k ≡ prev s ends (n + k)
unfolding prev
prev_past s [] zero k le = refl
prev_past s [] (suc n) k le = absurd (omega arith)
prev_past s (e ∷ es) zero k le = let p : k ≡ 0 + k = omega arith in ap (prev s (e ∷ es)) p
prev_past s (e ∷ es) (suc n) k le =
    let p : suc (n + k) ≡ suc n + k = omega arith in
    prev_past e es n k (omega arith) ∙ ap (prev s (e ∷ es)) p

pub rising_past : (s : ℕ) (ends : List ℕ) (size n : ℕ) → Rising s ends size → n ≤ length ends → Rising (prev s ends n) (drop n ends) size
unfolding prev Rising
rising_past s [] size zero h le = h
rising_past s [] size (suc n) h le = absurd (omega arith)
rising_past s (e ∷ es) size zero h le = h
rising_past s (e ∷ es) size (suc n) h le = rising_past e es size n h.1 (omega arith)

pub text_range : (ends bytes : List ℕ) (from to : ℕ) → Rising 0 ends (length bytes) → from ≤ to → to ≤ length ends
    → flat_map (λ f. f) (take (to - from) (drop from (cut_from 0 ends bytes))) ≡ take (prev 0 ends to - prev 0 ends from) (drop (prev 0 ends from) bytes)
text_range ends bytes from to h order within =
    let d = length-drop from ends in
    let t : from + (to - from) ≡ to = omega arith in
    ap (λ (l : List (List ℕ)). flat_map (λ f. f) (take (to - from) l)) (cut_past 0 ends bytes from (omega arith))
    ∙ text_first (prev 0 ends from) (drop from ends) bytes (to - from) (rising_past 0 ends (length bytes) from h (omega arith)) (omega arith)
    ∙ ap (λ (k : ℕ). take (k - prev 0 ends from) (drop (prev 0 ends from) bytes)) (prev_past 0 ends from (to - from) (omega arith) ∙ ap (prev 0 ends) t)

-- a range of fields keeps what it is where its text stands behind another
pub rising_first : (s : ℕ) (ends : List ℕ) (size n : ℕ) → Rising s ends size → n ≤ length ends → Rising s (take n ends) (prev s ends n)
unfolding prev Rising
rising_first s ends size zero h le = start s ends
  where
    start : (s : ℕ) (ends : List ℕ) → s ≤ prev s ends 0
    start s [] = omega arith
    start s (e ∷ es) = omega arith
rising_first s [] size (suc n) h le = absurd (omega arith)
rising_first s (e ∷ es) size (suc n) h le = (h.0, rising_first e es size n h.1 (omega arith))

drop_past : (xs ys : List ℕ) (n k : ℕ) → length xs ≡ n → drop (k + n) (xs ++ ys) ≡ drop k ys
drop_past xs ys n k e = let p : k + n ≡ n + k = omega arith in ap (λ (j : ℕ). drop j (xs ++ ys)) p ∙ sym (drop-drop k n (xs ++ ys)) ∙ ap (drop k) (drop_at xs ys n e)

cut_moved : (from size to s : ℕ) (ends before bytes : List ℕ) → length before ≡ to → from ≤ s → Rising s ends (from + size)
    → cut_from (moved from to s) (map (moved from to) ends) (before ++ take size (drop from bytes)) ≡ cut_from s ends bytes
unfolding cut_from Rising
cut_moved from size to s [] before bytes e low h = refl
cut_moved from size to s (end ∷ ends) before bytes e low h =
    let l = h.0 in
    let first = rising-first end ends (from + size) h.1 in
    let count : moved from to end - moved from to s ≡ end - s = omega arith in
    let there : from + (s - from) ≡ s = omega arith in
    let rest : (s - from) + (size - (s - from)) ≡ size = omega arith in
    let few : end - s ≤ size - (s - from) = omega arith in
    let here : take (end - s) (drop (moved from to s) (before ++ take size (drop from bytes))) ≡ take (end - s) (drop s bytes) =
    ap (take (end - s)) (drop_past before (take size (drop from bytes)) to (s - from) e
    ∙ ap (λ (k : ℕ). drop (s - from) (take k (drop from bytes))) (sym rest)
    ∙ drop-take (s - from) (size - (s - from)) (drop from bytes)
    ∙ ap (take (size - (s - from))) (drop-drop (s - from) from bytes ∙ ap (λ (k : ℕ). drop k bytes) there))
    ∙ take-take (end - s) (size - (s - from)) (drop s bytes) few in
    ap (λ (k : ℕ). take k (drop (moved from to s) (before ++ take size (drop from bytes))) ∷ cut_from (moved from to end) (map (moved from to) ends) (before ++ take size (drop from bytes))) count
    ∙ ap (λ (f : List ℕ). f ∷ cut_from (moved from to end) (map (moved from to) ends) (before ++ take size (drop from bytes))) here
    ∙ ap (λ (fs : List (List ℕ)). take (end - s) (drop s bytes) ∷ fs) (cut_moved from size to end ends before bytes e (omega arith) h.1)

pub rising_moved : (from to s size : ℕ) (ends : List ℕ) → from ≤ s → Rising s ends size → Rising (moved from to s) (map (moved from to) ends) (moved from to size)
unfolding Rising
rising_moved from to s size [] low h = omega arith
rising_moved from to s size (end ∷ ends) low h = let l = h.0 in (omega arith, rising_moved from to end size ends (omega arith) h.1)

cut_both : (s : ℕ) (xs ys bytes : List ℕ) → cut_from s (xs ++ ys) bytes ≡ cut_from s xs bytes ++ cut_from (last_end s xs) ys bytes
unfolding cut_from last_end
cut_both s [] ys bytes = refl
cut_both s (x ∷ xs) ys bytes = ap (λ (l : List (List ℕ)). take (x - s) (drop s bytes) ∷ l) (cut_both x xs ys bytes)

rising_both : (s : ℕ) (xs ys : List ℕ) (middle size : ℕ) → Rising s xs middle → Rising (last_end s xs) ys size → Rising s (xs ++ ys) size
unfolding Rising last_end
rising_both s [] ys middle size h g = g
rising_both s (x ∷ xs) ys middle size h g = (h.0, rising_both x xs ys middle size h.1 g)

last_both : (s : ℕ) (xs ys : List ℕ) → last_end s (xs ++ ys) ≡ last_end (last_end s xs) ys
unfolding last_end
last_both s [] ys = refl
last_both s (x ∷ xs) ys = last_both x xs ys

last_moved : (from to s : ℕ) (ends : List ℕ) → last_end (moved from to s) (map (moved from to) ends) ≡ moved from to (last_end s ends)
unfolding last_end
last_moved from to s [] = refl
last_moved from to s (end ∷ ends) = last_moved from to end ends

pub last_first : (s : ℕ) (ends : List ℕ) (n : ℕ) → n ≤ length ends → last_end s (take n ends) ≡ prev s ends n
unfolding prev last_end
last_first s [] zero le = refl
last_first s [] (suc n) le = absurd (omega arith)
last_first s (e ∷ es) zero le = refl
last_first s (e ∷ es) (suc n) le = last_first e es n (omega arith)

-- no bytes are left behind the last field
pub closed : (ends bytes : List ℕ) → Rising 0 ends (length bytes) → drop (last_end 0 ends) bytes ≡ [] → last_end 0 ends ≡ length bytes
closed ends bytes h none =
    let l = rising-last 0 ends (length bytes) h in
    let d = length-drop (last_end 0 ends) bytes in
    let n = ap length none in
    omega arith

-- the range of fields from a place up to another, behind others
pub range_rising : (ends : List ℕ) (size from to : ℕ) → Rising 0 ends size → from ≤ to → to ≤ length ends → Rising (prev 0 ends from) (take (to - from) (drop from ends)) (prev 0 ends to)
range_rising ends size from to h order within =
    let d = length-drop from ends in
    let t : from + (to - from) ≡ to = omega arith in
    subst (λ (n : ℕ). Rising (prev 0 ends from) (take (to - from) (drop from ends)) n) (prev_past 0 ends from (to - from) (omega arith) ∙ ap (prev 0 ends) t)
    (rising_first (prev 0 ends from) (drop from ends) size (to - from) (rising_past 0 ends size from h (omega arith)) (omega arith))

places_stay : (from s size : ℕ) (ends : List ℕ) → from ≤ s → Rising s ends size → map (moved from from) ends ≡ ends
unfolding Rising
places_stay from s size [] low h = refl
places_stay from s size (end ∷ ends) low h =
    let l = h.0 in
    let here : moved from from end ≡ end = omega arith in
    ap (λ (k : ℕ). k ∷ map (moved from from) ends) here ∙ ap (λ (ks : List ℕ). end ∷ ks) (places_stay from end size ends (omega arith) h.1)

pub range_stays : (ends : List ℕ) (size from to : ℕ) → Rising 0 ends size → from ≤ to → to ≤ length ends
    → map (moved (prev 0 ends from) (prev 0 ends from)) (take (to - from) (drop from ends)) ≡ take (to - from) (drop from ends)
range_stays ends size from to h order within =
    places_stay (prev 0 ends from) (prev 0 ends from) (prev 0 ends to) (take (to - from) (drop from ends)) (omega arith) (range_rising ends size from to h order within)

abbrev pub range_text : List ℕ → List ℕ → ℕ → ℕ → List ℕ
range_text ends bytes from to = take (prev 0 ends to - prev 0 ends from) (drop (prev 0 ends from) bytes)

pub range_size : (ends bytes : List ℕ) (from to : ℕ) → Rising 0 ends (length bytes) → from ≤ to → length (range_text ends bytes from to) ≡ prev 0 ends to - prev 0 ends from
range_size ends bytes from to h order =
    let a = prev_order 0 ends (length bytes) from to h order in
    let b = (prev_within 0 ends (length bytes) to h).1 in
    let d = length-drop (prev 0 ends from) bytes in
    length-take-le (prev 0 ends to - prev 0 ends from) (drop (prev 0 ends from) bytes) (omega arith)

pub moved_rising : (xends xbytes ends bytes : List ℕ) (from to : ℕ) → Rising 0 xends (length xbytes) → last_end 0 xends ≡ length xbytes
    → Rising 0 ends (length bytes) → from ≤ to → to ≤ length ends
    → Rising 0 (xends ++ map (moved (prev 0 ends from) (length xbytes)) (take (to - from) (drop from ends))) (length (xbytes ++ range_text ends bytes from to))
moved_rising xends xbytes ends bytes from to h whole g order within =
    let a = prev_order 0 ends (length bytes) from to g order in
    let n = length-append xbytes (range_text ends bytes from to) in
    let m = range_size ends bytes from to g order in
    let start : moved (prev 0 ends from) (length xbytes) (prev 0 ends from) ≡ last_end 0 xends = omega arith in
    let end : moved (prev 0 ends from) (length xbytes) (prev 0 ends to) ≡ length (xbytes ++ range_text ends bytes from to) = omega arith in
    let r = rising_moved (prev 0 ends from) (length xbytes) (prev 0 ends from) (prev 0 ends to) (take (to - from) (drop from ends)) (omega arith) (range_rising ends (length bytes) from to g order within) in
    rising_both 0 xends (map (moved (prev 0 ends from) (length xbytes)) (take (to - from) (drop from ends))) (length xbytes) _ h (rw (start, end) at r)

pub moved_fields : (xends xbytes ends bytes : List ℕ) (from to : ℕ) → Rising 0 xends (length xbytes) → last_end 0 xends ≡ length xbytes
    → Rising 0 ends (length bytes) → from ≤ to → to ≤ length ends
    → cut_from 0 (xends ++ map (moved (prev 0 ends from) (length xbytes)) (take (to - from) (drop from ends))) (xbytes ++ range_text ends bytes from to)
    ≡ cut_from 0 xends xbytes ++ take (to - from) (drop from (cut_from 0 ends bytes))
moved_fields xends xbytes ends bytes from to h whole g order within =
    let s = prev 0 ends from in
    let a = prev_order 0 ends (length bytes) from to g order in
    let range = take (to - from) (drop from ends) in
    let start : last_end 0 xends ≡ moved s (length xbytes) s = omega arith in
    let size : prev 0 ends to ≡ s + (prev 0 ends to - s) = omega arith in
    let rising = subst (Rising s range) size (range_rising ends (length bytes) from to g order within) in
    cut_both 0 xends (map (moved s (length xbytes)) range) (xbytes ++ range_text ends bytes from to)
    ∙ ap (λ (l : List (List ℕ)). l ++ cut_from (last_end 0 xends) (map (moved s (length xbytes)) range) (xbytes ++ range_text ends bytes from to)) (cut-more 0 xends xbytes (range_text ends bytes from to) h)
    ∙ ap (λ (k : ℕ). cut_from 0 xends xbytes ++ cut_from k (map (moved s (length xbytes)) range) (xbytes ++ range_text ends bytes from to)) start
    ∙ ap (λ (l : List (List ℕ)). cut_from 0 xends xbytes ++ l) (cut_moved s (prev 0 ends to - s) (length xbytes) s range xbytes bytes refl (omega arith) rising ∙ sym (cut_range 0 ends bytes from (to - from) (omega arith)))

pub moved_last : (xends xbytes ends bytes : List ℕ) (from to : ℕ) → last_end 0 xends ≡ length xbytes → Rising 0 ends (length bytes) → from ≤ to → to ≤ length ends
    → drop (last_end 0 (xends ++ map (moved (prev 0 ends from) (length xbytes)) (take (to - from) (drop from ends)))) (xbytes ++ range_text ends bytes from to) ≡ []
moved_last xends xbytes ends bytes from to whole g order within =
    let s = prev 0 ends from in
    let range = take (to - from) (drop from ends) in
    let a = prev_order 0 ends (length bytes) from to g order in
    let d = length-drop from ends in
    let t : from + (to - from) ≡ to = omega arith in
    let n = length-append xbytes (range_text ends bytes from to) in
    let m = range_size ends bytes from to g order in
    let start : last_end 0 xends ≡ moved s (length xbytes) s = omega arith in
    let last : last_end 0 (xends ++ map (moved s (length xbytes)) range) ≡ moved s (length xbytes) (prev 0 ends to) =
    last_both 0 xends (map (moved s (length xbytes)) range) ∙ ap (λ (k : ℕ). last_end k (map (moved s (length xbytes)) range)) start ∙ last_moved s (length xbytes) s range
    ∙ ap (moved s (length xbytes)) (last_first s (drop from ends) (to - from) (omega arith) ∙ prev_past 0 ends from (to - from) (omega arith) ∙ ap (prev 0 ends) t) in
    drop_all _ (xbytes ++ range_text ends bytes from to) (omega arith)
