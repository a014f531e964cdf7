-- The numbers by which the cores of a query count their entries, and what stands there.
use Rattle.std.proofs.Common.{◌≡◌, ℕ, zero, suc, ◌+◌, List, [], ◌∷◌, ◌++◌, flat_map, map, drop, length, slice_index_or, refl, sym, ap, ◌∙◌, arith, append_assoc}
use Rattle.std.specs.List.{range_with_len}
use Rattle.std.proofs.lemmas.List.{length-map, length-append}
use Rattle.med_syntax.specs.QueryTree.{EntryTree, JoinTree, inner_join, left_join, cross_join, ChainTree, CoreTree}
use Rattle.bind_names.specs.Prelude.{TableShape, Scope, joined_entry, chain_entries, entries_of, entry_columns, entry_shape, join_meant, with_join, joins_meant, chain_meant, chains_meant, Sorting, core_meant, cores_meant}
use Rattle.med_binder.specs.Within.{widths}
use Rattle.med_binder.specs.Counted.{joined_number, chain_numbers, core_numbers, core_widths}

-- ---- numbers

range_from : (m n k : ℕ) → m ≡ n → range_with_len m k ≡ range_with_len n k
range_from m n k e = ap (λ (a : ℕ). range_with_len a k) e

pub range_both : (n a b : ℕ) → range_with_len n (a + b) ≡ range_with_len n a ++ range_with_len (n + a) b
range_both n zero b =
    let e : zero + b ≡ b = omega arith in
    let f : n ≡ n + zero = omega arith in
    ap (range_with_len n) e ∙ range_from n (n + zero) b f
range_both n (suc a) b =
    let e : suc a + b ≡ suc (a + b) = omega arith in
    let f : (n + 1) + a ≡ n + suc a = omega arith in
    ap (range_with_len n) e
    ∙ ap (λ (l : List ℕ). n ∷ l) (range_both (n + 1) a b)
    ∙ ap (λ (l : List ℕ). range_with_len n (suc a) ++ l) (range_from ((n + 1) + a) (n + suc a) b f)

join_number : (s : Scope) (number width : ℕ) (j : JoinTree) → joined_number (join_meant s number width j) ≡ number
join_number s number width (inner_join e on) = refl
join_number s number width (left_join e on) = refl
join_number s number width (cross_join e) = refl

joins_count : (tables : List TableShape) (before : Scope) (number : ℕ) (js : List JoinTree) → map joined_number (joins_meant tables before number js) ≡ range_with_len number (length js)
joins_count tables before number [] = refl
joins_count tables before number (j ∷ js) =
    let s = with_join tables before j in
    let next : suc number ≡ number + 1 = omega arith in
    ap (λ (n : ℕ). n ∷ map joined_number (joins_meant tables s (suc number) js)) (join_number s number (length (entry_columns tables (joined_entry j))) j)
    ∙ ap (λ (l : List ℕ). number ∷ l) (joins_count tables s (suc number) js ∙ range_from (suc number) (number + 1) (length js) next)

chain_count : (tables : List TableShape) (number : ℕ) (c : ChainTree) → chain_numbers (chain_meant tables number c) ≡ range_with_len number (length (chain_entries c))
chain_count tables number c =
    let next : suc number ≡ number + 1 = omega arith in
    ap (λ (l : List ℕ). number ∷ l)
    (joins_count tables (entry_shape tables c.first ∷ []) (suc number) c.joins ∙ range_from (suc number) (number + 1) (length c.joins) next
    ∙ ap (range_with_len (number + 1)) (sym (length-map c.joins joined_entry)))

pub chains_count : (tables : List TableShape) (number : ℕ) (cs : List ChainTree) → flat_map chain_numbers (chains_meant tables number cs) ≡ range_with_len number (length (entries_of cs))
chains_count tables number [] = refl
chains_count tables number (c ∷ cs) =
    let next = number + length (chain_entries c) in
    ap (λ (l : List ℕ). l ++ flat_map chain_numbers (chains_meant tables next cs)) (chain_count tables number c)
    ∙ ap (λ (l : List ℕ). range_with_len number (length (chain_entries c)) ++ l) (chains_count tables next cs)
    ∙ sym (range_both number (length (chain_entries c)) (length (entries_of cs)))
    ∙ ap (range_with_len number) (sym (length-append (chain_entries c) (entries_of cs)))

-- the entries of cores, one core after another
abbrev pub entries_in : List CoreTree → List EntryTree
entries_in = flat_map (λ (c : CoreTree). entries_of c.from)

pub cores_count : (tables : List TableShape) (sorting : Sorting) (number : ℕ) (cs : List CoreTree) → flat_map core_numbers (cores_meant tables sorting number cs) ≡ range_with_len number (length (entries_in cs))
cores_count tables sorting number [] = refl
cores_count tables sorting number (c ∷ cs) =
    let next = number + length (entries_of c.from) in
    ap (λ (l : List ℕ). l ++ flat_map core_numbers (cores_meant tables sorting next cs)) (chains_count tables number c.from)
    ∙ ap (λ (l : List ℕ). range_with_len number (length (entries_of c.from)) ++ l) (cores_count tables sorting next cs)
    ∙ sym (range_both number (length (entries_of c.from)) (length (entries_in cs)))
    ∙ ap (range_with_len number) (sym (length-append (entries_of c.from) (entries_in cs)))

pub range_long : (n k : ℕ) → length (range_with_len n k) ≡ k
range_long n zero = refl
range_long n (suc k) = ap suc (range_long (n + 1) k)

-- ---- widths of entries

abbrev pub entry_width : List TableShape → EntryTree → ℕ
entry_width tables e = length (entry_columns tables e)

abbrev pub entry_widths : List TableShape → List EntryTree → List ℕ
entry_widths tables = map (entry_width tables)

pub shape_widths : (tables : List TableShape) (es : List EntryTree) → widths (map (entry_shape tables) es) ≡ entry_widths tables es
shape_widths tables [] = refl
shape_widths tables (e ∷ es) = ap (λ l. entry_width tables e ∷ l) (shape_widths tables es)

pub widths_of_two : (tables : List TableShape) (es fs : List EntryTree) → entry_widths tables (es ++ fs) ≡ entry_widths tables es ++ entry_widths tables fs
widths_of_two tables [] fs = refl
widths_of_two tables (e ∷ es) fs = ap (λ l. entry_width tables e ∷ l) (widths_of_two tables es fs)

pub one_on : {X : Type 0} (xs : List X) (y : X) (ys : List X) → xs ++ (y ∷ ys) ≡ (xs ++ (y ∷ [])) ++ ys
one_on [] y ys = refl
one_on (x ∷ xs) y ys = ap (λ l. x ∷ l) (one_on xs y ys)

-- ---- what stands at numbers

pub drop_all : {X : Type 0} (xs ys : List X) → drop (length xs) (xs ++ ys) ≡ ys
drop_all [] ys = refl
drop_all (x ∷ xs) ys = drop_all xs ys

-- what stands from a number on
pub drop_there : {X : Type 0} (all before rest : List X) (number : ℕ) → all ≡ before ++ rest → number ≡ length before → drop number all ≡ rest
drop_there all before rest number e n = ap (λ (k : ℕ). drop k all) n ∙ ap (drop (length before)) e ∙ drop_all before rest

read_there : {X : Type 0} (d x : X) (before rest : List X) → slice_index_or (before ++ (x ∷ rest)) (length before) d ≡ x
read_there d x [] rest = refl
read_there d x (b ∷ before) rest = read_there d x before rest

-- what stands at these numbers
abbrev pub reads : {X : Type 0} → X → List X → List ℕ → List X
reads d all ks = map (λ (k : ℕ). slice_index_or all k d) ks

read_range : {X : Type 0} (d : X) (before own post : List X) → reads d (before ++ (own ++ post)) (range_with_len (length before) (length own)) ≡ own
read_range d before [] post = refl
read_range d before (x ∷ xs) post =
    let n = length before in
    let longer : n + 1 ≡ length (before ++ (x ∷ [])) = sym (length-append before (x ∷ [])) in
    ap (λ y. y ∷ reads d (before ++ (x ∷ (xs ++ post))) (range_with_len (n + 1) (length xs))) (read_there d x before (xs ++ post))
    ∙ ap (λ l. x ∷ reads d l (range_with_len (n + 1) (length xs))) (one_on before x (xs ++ post))
    ∙ ap (λ (k : ℕ). x ∷ reads d ((before ++ (x ∷ [])) ++ (xs ++ post)) (range_with_len k (length xs))) longer
    ∙ ap (λ l. x ∷ l) (read_range d (before ++ (x ∷ [])) xs post)

-- what stands at the numbers of a core
pub read_core : {X : Type 0} (d : X) (all before own post : List X) (tables : List TableShape) (sorting : Sorting) (number : ℕ) (c : CoreTree) → all ≡ before ++ (own ++ post) → number ≡ length before
    → length own ≡ length (entries_of c.from) → reads d all (core_numbers (core_meant tables sorting number c)) ≡ own
read_core d all before own post tables sorting number c e n many =
    ap (reads d all) (chains_count tables number c.from)
    ∙ ap (λ (k : ℕ). reads d all (range_with_len k (length (entries_of c.from)))) n
    ∙ ap (λ (k : ℕ). reads d all (range_with_len (length before) k)) (sym many)
    ∙ ap (λ l. reads d l (range_with_len (length before) (length own))) e
    ∙ read_range d before own post

pub core_wide : (tables : List TableShape) (ws before post : List ℕ) (sorting : Sorting) (number : ℕ) (c : CoreTree) → ws ≡ before ++ (entry_widths tables (entries_of c.from) ++ post) → number ≡ length before
    → core_widths ws (core_meant tables sorting number c) ≡ entry_widths tables (entries_of c.from)
core_wide tables ws before post sorting number c e n = read_core 0 ws before (entry_widths tables (entries_of c.from)) post tables sorting number c e n (length-map (entries_of c.from) (entry_width tables))

-- ---- from one core to the next

-- what stands before the next core
pub next_all : {X : Type 0} (all before own rest : List X) → all ≡ before ++ (own ++ rest) → all ≡ (before ++ own) ++ rest
next_all all before own rest e = e ∙ sym (append_assoc before own rest)

pub next_number : {X : Type 0} (before own : List X) (number many : ℕ) → number ≡ length before → length own ≡ many → number + many ≡ length (before ++ own)
next_number before own number many n m = let l = length-append before own in omega (arith, n, m, l)
