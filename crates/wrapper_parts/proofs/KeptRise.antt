-- First columns that rise, cell by cell and change by change.
use Rattle.std.proofs.Common.{◌≡◌, ◌≤◌, ◌<◌, ◌+◌, ◌≤ℤ◌, ℕ, ℤ, zero, suc, List, [], ◌∷◌, ◌++◌, length, sym, ◌∙◌, subst, FitsSigned, w64, arith, refl, below_more}
use Rattle.std.proofs.lemmas.Int.{ints}
use Rattle.med_value.specs.Datum.{Datum, Whole, Tuple, cell}
use Rattle.fdw_api.specs.Kinds.{Change, Inserts, Updates, Deletes}
use Rattle.wrapper_parts.specs.Rising.{AreInOrder, AreRising}
use Rattle.wrapper_parts.specs.KeepingRise.{IsKey, RiseUpTo, KeepRising, KeepsRise, fresh_cells}

le_on : (a b c d : ℤ) → a ≤ℤ b → b ≡ c → c ≤ℤ d → a ≤ℤ d
le_on a b c d p e q = omega (arith, ints)

le_same : (a : ℤ) → a ≤ℤ a
le_same a = omega (arith, ints)

-- cells in order, one after the other
pub order_on : (a b c : Datum) → AreInOrder a b → AreInOrder b c → AreInOrder a c
order_on a b c p q =
    let e : Whole p.high ≡ Whole q.low = sym p.second_is ∙ q.first_is in
    let same : p.high ≡ q.low = cc in
    record { low = p.low; high = q.high; first_is = p.first_is; second_is = q.second_is; fits = p.fits; order = le_on p.low p.high q.low q.high p.order same q.order }

pub keys_in_order : (a b : Datum) (low high : ℤ) → IsKey a low → b ≡ Whole high → low ≤ℤ high → AreInOrder a b
keys_in_order a b low high first second le = record { low = low; high = high; first_is = first.is; second_is = second; fits = first.fits; order = le }

pub in_order_itself : (d : Datum) (key : ℤ) → IsKey d key → AreInOrder d d
in_order_itself d key is = keys_in_order d d key key is is.is (le_same key)

pub whole_key : (key : ℤ) → FitsSigned w64 key → IsKey (Whole key) key
whole_key key fits = record { is = refl; fits = fits }

-- no cell yet
pub up_to_none : (cells : List Datum) (key : ℤ) → FitsSigned w64 key → RiseUpTo cells key 0
up_to_none cells key fits = record { fits = fits; rise = λ one other le lt. absurd (omega arith); below = λ one lt. absurd (omega arith) }

-- one cell more
pub up_to_more : (cells : List Datum) (low key : ℤ) (at : ℕ) → RiseUpTo cells low at → IsKey (cell cells at) key → low ≤ℤ key → RiseUpTo cells key (at + 1)
up_to_more cells low key at up is le =
    let step : AreInOrder (Whole low) (cell cells at) = keys_in_order (Whole low) (cell cells at) low key (whole_key low up.fits) is.is le in
    let self = in_order_itself (cell cells at) key is in
    let last : (one : ℕ) → one < at + 1 → AreInOrder (cell cells one) (cell cells at) =
    below_more (λ (k : ℕ). AreInOrder (cell cells k) (cell cells at)) at (λ k lt. order_on (cell cells k) (Whole low) (cell cells at) (up.below k lt) step) self in
    let rise : (other : ℕ) → other < at + 1 → (one : ℕ) → one ≤ other → AreInOrder (cell cells one) (cell cells other) =
    below_more (λ (k : ℕ). (one : ℕ) → one ≤ k → AreInOrder (cell cells one) (cell cells k)) at (λ k lt one order. up.rise one k order lt)
    (λ one order. last one (omega arith)) in
    record {
      fits = is.fits;
      rise = λ one other order lt. rise other lt one order;
      below = λ one lt. subst (λ (d : Datum). AreInOrder (cell cells one) d) is.is (last one lt);
    }

-- all cells
pub up_to_all : (cells : List Datum) (key : ℤ) (at : ℕ) → RiseUpTo cells key at → length cells ≤ at → AreRising cells
up_to_all cells key at up all = λ one other le lt. up.rise one other le (omega arith)

-- the last of cells that rise is over none of them
pub up_to_last : (cells : List Datum) (at count : ℕ) (key : ℤ) → length cells ≡ count → at + 1 ≡ count → IsKey (cell cells at) key → AreRising cells
    → RiseUpTo cells key count
up_to_last cells at count key many last is rising = record {
  fits = is.fits;
  rise = λ one other le lt. rising one other le (omega arith);
  below = λ one lt. subst (λ (d : Datum). AreInOrder (cell cells one) d) is.is (rising one at (omega arith) (omega arith));
}

-- each of a list
abbrev pub Each : (Datum → Type 0) → List Datum → Type 0
Each P [] = Unit {0}
Each P (d ∷ ds) = P d × Each P ds

-- each of a list is in order with itself and with those behind it
abbrev pub Chain : List Datum → Type 0
Chain [] = Unit {0}
Chain (d ∷ ds) = Each (AreInOrder d) (d ∷ ds) × Chain ds

pub each_at : (P : Datum → Type 0) (ds : List Datum) (k : ℕ) → Each P ds → k < length ds → P (cell ds k)
each_at P [] k e lt = absurd (omega arith)
each_at P (d ∷ ds) zero e lt = e.0
each_at P (d ∷ ds) (suc k) e lt = each_at P ds k e.1 (omega arith)

pub each_of : (P : Datum → Type 0) (ds : List Datum) → ((k : ℕ) → k < length ds → P (cell ds k)) → Each P ds
each_of P [] h = tt
each_of P (d ∷ ds) h = (h 0 (omega arith), each_of P ds (λ k lt. h (suc k) (omega arith)))

pub each_as : (P Q : Datum → Type 0) (ds : List Datum) → ((d : Datum) → P d → Q d) → Each P ds → Each Q ds
each_as P Q [] h e = tt
each_as P Q (d ∷ ds) h e = (h d e.0, each_as P Q ds h e.1)

pub each_both : (P : Datum → Type 0) (xs ys : List Datum) → Each P xs → Each P ys → Each P (xs ++ ys)
each_both P [] ys a b = b
each_both P (x ∷ xs) ys a b = (a.0, each_both P xs ys a.1 b)

pub chain_of : (ds : List Datum) → AreRising ds → Chain ds
chain_of [] h = tt
chain_of (d ∷ ds) h =
    (each_of (AreInOrder d) (d ∷ ds) (λ k lt. h 0 k (omega arith) lt), chain_of ds (λ at later le lt. h (suc at) (suc later) (omega arith) (omega arith)))

pub chain_at : (ds : List Datum) → Chain ds → (at later : ℕ) → at ≤ later → later < length ds → AreInOrder (cell ds at) (cell ds later)
chain_at [] c at later le lt = absurd (omega arith)
chain_at (d ∷ ds) c zero later le lt = each_at (AreInOrder d) (d ∷ ds) later c.0 lt
chain_at (d ∷ ds) c (suc at) zero le lt = absurd (omega arith)
chain_at (d ∷ ds) c (suc at) (suc later) le lt = chain_at ds c.1 at later (omega arith) (omega arith)

-- two chains, where a cell stands between them
pub chain_both : (xs ys : List Datum) (b : Datum) → Chain xs → Chain ys → Each (λ d. AreInOrder d b) xs → Each (AreInOrder b) ys → Chain (xs ++ ys)
chain_both [] ys b cx cy over below = cy
chain_both (x ∷ xs) ys b cx cy over below =
    (each_both (AreInOrder x) (x ∷ xs) ys cx.0 (each_as (AreInOrder b) (AreInOrder x) ys (λ d p. order_on x b d over.0 p) below), chain_both xs ys b cx.1 cy over.1 below)

-- the first cells of inserted rows are a chain, none of them below the one from which they rise
fresh_chain : (cells : List Datum) (low : Datum) (cs : List Change) → KeepRising cells low cs → Chain (fresh_cells cs) × Each (AreInOrder low) (fresh_cells cs)
fresh_chain cells low [] keep = (tt, tt)
fresh_chain cells low (Inserts x ∷ cs) keep =
    let more = fresh_chain cells (cell x 0) cs keep.1.1 in
    let above = each_as (AreInOrder (cell x 0)) (AreInOrder low) (fresh_cells cs) (λ d p. order_on low (cell x 0) d keep.0 p) more.1 in
    (((keep.1.0, more.1), more.0), (keep.0, above))
fresh_chain cells low (Updates j x ∷ cs) keep = fresh_chain cells low cs keep.1
fresh_chain cells low (Deletes j ∷ cs) keep = fresh_chain cells low cs keep

-- the cells that stand and behind them the new ones rise
pub rises_on : (cells : List Datum) (cs : List Change) → KeepsRise cells cs → AreRising (cells ++ fresh_cells cs)
rises_on cells cs h =
    let fresh = fresh_chain cells (Whole h.last) cs h.keep in
    let below = each_of (λ d. AreInOrder d (Whole h.last)) cells h.up.below in
    chain_at (cells ++ fresh_cells cs) (chain_both cells (fresh_cells cs) (Whole h.last) (chain_of cells h.rising) fresh.0 below fresh.1)

-- an insertion of a row that begins with a key which is not less than the one before it
pub insert_on : (cells : List Datum) (low key : ℤ) (x : Tuple) → FitsSigned w64 low → IsKey (cell x 0) key → low ≤ℤ key → (cs : List Change)
    → KeepRising cells (Whole key) cs → KeepRising cells (Whole low) (Inserts x ∷ cs)
insert_on cells low key x fits is le cs keep = (
  keys_in_order (Whole low) (cell x 0) low key (whole_key low fits) is.is le,
  (in_order_itself (cell x 0) key is, subst (λ (d : Datum). KeepRising cells d cs) (sym is.is) keep),
)
