-- A deletion of one row alone: the rows before it and those behind it stay.
use Rattle.std.proofs.Common.{◌≡◌, ◌≢◌, ℕ, ◌+◌, ◌<◌, true, false, if◌then◌else◌, nat_eq, List, [], ◌∷◌, ◌++◌, length, map, flat_map, take, drop, suc, zero, refl, ap, sym, ◌∙◌, subst, arith, append-nil}
use Rattle.std.proofs.lemmas.Bool.Decides.{nat_tests}
use Rattle.med_value.specs.Datum.{Datum, cell, tuple}
use Rattle.med_value.specs.declared.value.Row.{Row}
use Rattle.fdw_api.specs.Prelude.{Held, held, Change, Deletes, row_after, rows_after}
use Rattle.wrapper_parts.specs.Rising.{AreInOrder, AreRising}
use Rattle.wrapper_parts.proofs.KeptRise.{Each, Chain, chain_of, chain_at}
use Rattle.list_wrapper.specs.Lists.{no_line}
use Rattle.list_wrapper.specs.Changes.{as_held}
use Rattle.list_wrapper.specs.Scans.{numbered, keys_of}

-- what a deletion leaves of rows from an id on
abbrev left : ℕ → ℕ → List Row → List Held
left j n rows = flat_map (λ r. row_after no_line r.id (Deletes j ∷ []) (held r ∷ [])) (numbered n rows)

same : (j n : ℕ) → j ≡ n → nat_eq j n ≡ true
same j n e = grind (arith, nat_tests)

other : (j n : ℕ) → j ≢ n → nat_eq j n ≡ false
other j n e = grind (arith, nat_tests)

stays : (j n : ℕ) (r : Row) (rows : List Row) → j ≢ n → left j n (r ∷ rows) ≡ as_held r ∷ left j (n + 1) rows
stays j n r rows ne = ap (λ b. (if b then [] else as_held r ∷ []) ++ left j (n + 1) rows) (other j n ne)

goes : (j n : ℕ) (r : Row) (rows : List Row) → j ≡ n → left j n (r ∷ rows) ≡ left j (n + 1) rows
goes j n r rows e = ap (λ b. (if b then [] else as_held r ∷ []) ++ left j (n + 1) rows) (same j n e)

-- behind the row that goes all stay
all_behind : (j n : ℕ) (rows : List Row) → j < n → left j n rows ≡ map as_held rows
all_behind j n [] lt = refl
all_behind j n (r ∷ rows) lt = stays j n r rows (λ e. absurd (omega arith)) ∙ ap (λ (l : List Held). as_held r ∷ l) (all_behind j (n + 1) rows (omega arith))

without : (j n at : ℕ) (rows : List Row) → j ≡ n + at → at < length rows → left j n rows ≡ map as_held (take at rows ++ drop (suc at) rows)
without j n at [] e lt = absurd (omega arith)
without j n zero (r ∷ rows) e lt = goes j n r rows (omega arith) ∙ all_behind j (n + 1) rows (omega arith)
without j n (suc at) (r ∷ rows) e lt =
    stays j n r rows (λ same. absurd (omega arith)) ∙ ap (λ (l : List Held). as_held r ∷ l) (without j (n + 1) at rows (omega arith) (omega arith))

-- so a deletion alone leaves the rows before and behind its own
pub one_taken_out : (rows new : List Row) (cs : List Change) (at : ℕ) → at < length rows → new ≡ take at rows ++ drop (at + 1) rows → cs ≡ Deletes at ∷ []
    → map as_held new ≡ rows_after no_line (numbered 0 rows) cs
one_taken_out rows new cs at lt is only =
    let next : at + 1 ≡ suc at = omega arith in
    ap (map as_held) (is ∙ ap (λ (n : ℕ). take at rows ++ drop n rows) next)
    ∙ sym (without at 0 at rows (omega arith) lt)
    ∙ sym (append-nil (left at 0 rows))
    ∙ ap (rows_after no_line (numbered 0 rows)) (sym only)

-- and they rise if all did
each_left : (P : Datum → Type 0) (at : ℕ) (rows : List Row) → Each P (keys_of rows) → Each P (keys_of (take at rows ++ drop (suc at) rows))
each_left P zero [] e = tt
each_left P (suc at) [] e = tt
each_left P zero (r ∷ rows) e = e.1
each_left P (suc at) (r ∷ rows) e = (e.0, each_left P at rows e.1)

chain_left : (at : ℕ) (rows : List Row) → Chain (keys_of rows) → Chain (keys_of (take at rows ++ drop (suc at) rows))
chain_left zero [] c = tt
chain_left (suc at) [] c = tt
chain_left zero (r ∷ rows) c = c.1
chain_left (suc at) (r ∷ rows) c = ((c.0.0, each_left (AreInOrder (cell (tuple r) 0)) at rows c.0.1), chain_left at rows c.1)

pub one_out_rises : (rows new : List Row) (at : ℕ) → new ≡ take at rows ++ drop (at + 1) rows → AreRising (keys_of rows) → AreRising (keys_of new)
one_out_rises rows new at is h =
    let next : at + 1 ≡ suc at = omega arith in
    subst (λ (l : List Row). AreRising (keys_of l)) (sym (is ∙ ap (λ (n : ℕ). take at rows ++ drop n rows) next))
    (chain_at (keys_of (take at rows ++ drop (suc at) rows)) (chain_left at rows (chain_of (keys_of rows) h)))
