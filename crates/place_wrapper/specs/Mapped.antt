-- Entries by number, and the finite map of what their values mean.
use Rattle.std.specs.Prelude.{◌≡◌, ◌≤◌, ◌+◌, ℕ, false, List, [], ◌∷◌, map, Option}
use Rattle.std.specs.Ordering.{nat_cmp}
use Rattle.std.specs.Map.{lookup}
use Rattle.std.specs.BTreeMap.{is_at}
use Rattle.std.specs.FinMap as finmap
use Rattle.std.specs.Coded.{le_prop}

abbrev pub mapped : {X Y : Type 0} → (X → Y) → List (ℕ × X) → finmap.FinMap nat_cmp Y
mapped f es = finmap.from_entries (map (λ e. (e.0, f e.1)) es)

-- what stands under a number, None where nothing does
abbrev pub live_at : {X : Type 0} → List (ℕ × X) → ℕ → Option X
live_at es q = lookup (is_at (nat_cmp q)) es

-- w stands under a number, and under each other number what stood there
pub record Updates {X : Type 0} (m n : List (ℕ × X)) (k : ℕ) (w : Option X) : Type 0 where
  pub there : live_at n k ≡ w
  pub others : (q : ℕ) → is_at (nat_cmp k) q ≡ false → live_at n q ≡ live_at m q

abbrev pub numbers : {X : Type 0} → List (ℕ × X) → List ℕ
numbers es = map (λ e. e.0) es

-- numbers that rise: the first is this one at least, and all are below the next
abbrev pub Rise : ℕ → ℕ → List ℕ → Type 0
Rise least next [] = least ≤ next
Rise least next (k ∷ ks) = (least ≤ k) × Rise (k + 1) next ks

-- that they do is a fact
pub rise_once : (least next : ℕ) (ks : List ℕ) → IsProp (Rise least next ks)
rise_once least next [] = le_prop
rise_once least next (k ∷ ks) = λ x y i. (le_prop x.0 y.0 i, rise_once (k + 1) next ks x.1 y.1 i)
