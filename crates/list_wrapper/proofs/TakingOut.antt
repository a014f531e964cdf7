-- Rows that are taken out of a list.
use Rattle.std.proofs.Common.{◌≡◌, ℕ, ◌+◌, ◌<◌, ◌≤◌, ◌⊎◌, inl, inr, Bool, true, false, if◌then◌else◌, List, [], ◌∷◌, ◌++◌, length, take, drop, get_or, set, suc, zero, refl, ap, sym, ◌∙◌, arith, length-set, append_assoc}
use Rattle.std.specs.List.{SwappedAt}
use Rattle.std.proofs.lemmas.List.{drop_more, drop_all, take_more_set, take-set, take-set-le, drop-set-lt, get_or_past}
use Rattle.std.proofs.lemmas.Bool.{cases_lt}
use Rattle.med_value.specs.declared.value.Row.{Row}
use Rattle.list_wrapper.specs.Stay.{stay}

pub stay_none : (rows : List Row) → stay rows [] ≡ rows
stay_none [] = refl
stay_none (r ∷ rows) = ap (λ (l : List Row). r ∷ l) (stay_none rows)

-- a step over a row that is gone, and over one that stays
stay_more : (rows : List Row) (gone : List Bool) (at : ℕ) (y : Row) → at < length rows → y ≡ get_or rows at y
    → stay (drop at rows) (drop at gone) ≡ (if get_or gone at false then stay (drop (at + 1) rows) (drop (at + 1) gone) else y ∷ stay (drop (at + 1) rows) (drop (at + 1) gone))
stay_more rows gone at y lt e = split (drop_more rows at y lt ∙ ap (λ (r : Row). r ∷ drop (at + 1) rows) (sym e)) (cases_lt at (length gone))
  where
    split : drop at rows ≡ y ∷ drop (at + 1) rows → (at < length gone) ⊎ (length gone ≤ at)
        → stay (drop at rows) (drop at gone) ≡ (if get_or gone at false then stay (drop (at + 1) rows) (drop (at + 1) gone) else y ∷ stay (drop (at + 1) rows) (drop (at + 1) gone))
    split d (inl w) = rw (d, drop_more gone at false w) refl
    split d (inr w) = rw (d, drop_all at gone w, get_or_past gone at false w, drop_all (at + 1) gone (omega arith)) refl

-- rows swapped: what was behind comes next to the front, and what is behind that stays
swapped : (ys zs : List Row) (k at : ℕ) (y : Row) → k ≤ at → at < length ys → y ≡ get_or ys at y → SwappedAt ys zs k at
    → (take (k + 1) zs ≡ take k ys ++ y ∷ []) × (drop (at + 1) zs ≡ drop (at + 1) ys)
swapped ys zs k at y le lt e s =
    let w = get_or ys k y in
    let is : zs ≡ set (set ys k y) at w = s.3 y ∙ ap (λ (x : Row). set (set ys k x) at w) (sym e) in
    let long : length (set ys k y) ≡ length ys = length-set ys k y in
    (ap (take (k + 1)) is ∙ front w (cases_lt k at) long, ap (drop (at + 1)) is ∙ drop-set-lt (at + 1) (set ys k y) at w (omega arith) ∙ drop-set-lt (at + 1) ys k y (omega arith))
  where
    front : (w : Row) → (k < at) ⊎ (at ≤ k) → length (set ys k y) ≡ length ys → take (k + 1) (set (set ys k y) at (get_or ys k y)) ≡ take k ys ++ y ∷ []
    front w (inl less) long = take-set-le (k + 1) (set ys k y) at (get_or ys k y) (omega arith) ∙ take_more_set ys k y (omega arith)
    front w (inr more) long =
        let same : at ≡ k = omega arith in
        ap (λ (n : ℕ). take (k + 1) (set (set ys k y) n (get_or ys k y))) same ∙ take_more_set (set ys k y) k (get_or ys k y) (omega arith)
        ∙ ap (λ (l : List Row). l ++ get_or ys k y ∷ []) (take-set ys k y) ∙ ap (λ (x : Row). take k ys ++ x ∷ []) (ap (λ (n : ℕ). get_or ys n y) (sym same) ∙ sym e)

-- a row that stands at a place within
row_there : (rows : List Row) (at : ℕ) → at < length rows → (y : Row) × (y ≡ get_or rows at y)
row_there [] at lt = absurd (omega arith)
row_there (r ∷ rows) zero lt = (r, refl)
row_there (r ∷ rows) (suc at) lt = row_there rows at (omega arith)

-- the loop that takes rows out goes on over a row that stays, and over one that is gone
pub keeps_on : (ys zs all : List Row) (gone : List Bool) (k at : ℕ) → k ≤ at → at < length ys → get_or gone at false ≡ false → SwappedAt ys zs k at
    → take k ys ++ stay (drop at ys) (drop at gone) ≡ all → take (k + 1) zs ++ stay (drop (at + 1) zs) (drop (at + 1) gone) ≡ all
keeps_on ys zs all gone k at le lt e s i =
    let y = row_there ys at lt in
    let m = stay_more ys gone at y.0 lt y.1 in
    let w = swapped ys zs k at y.0 le lt y.1 s in
    rw (w.0, w.1, append_assoc) (sym (ap (λ (l : List Row). take k ys ++ l) (m ∙ rw e refl)) ∙ i)

pub drops_on : (ys all : List Row) (gone : List Bool) (k at : ℕ) → at < length ys → get_or gone at false ≡ true
    → take k ys ++ stay (drop at ys) (drop at gone) ≡ all → take k ys ++ stay (drop (at + 1) ys) (drop (at + 1) gone) ≡ all
drops_on ys all gone k at lt e i =
    let y = row_there ys at lt in
    let m = stay_more ys gone at y.0 lt y.1 in
    sym (ap (λ (l : List Row). take k ys ++ l) (m ∙ rw e refl)) ∙ i

pub no_marks : (l : List Bool) → length l ≡ 0 → l ≡ []
no_marks [] e = refl
no_marks (x ∷ l) e = absurd (omega arith)
