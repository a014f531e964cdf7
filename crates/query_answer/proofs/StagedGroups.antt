-- What groups show, from what is kept of each.
use Rattle.std.proofs.Common.{◌≡◌, ◌<◌, ◌+◌, ℕ, zero, suc, if◌then◌else◌, List, [], ◌∷◌, ◌++◌, map, flat_map, take, length, get_or, refl, sym, ap, ◌∙◌, subst, arith, append_assoc, append-nil, Contains}
use Rattle.std.proofs.lemmas.List.{take_more}
use Rattle.std.proofs.lemmas.Grind.{flat_map-append}
use Rattle.std.proofs.lemmas.List.Elements.{Contains-append_left, Contains-append_right}
use Rattle.med_value.specs.Datum.{Tuple}
use Rattle.tri_expr.specs.declared.expr.Expr.{Expr}
use Rattle.tri_expr.specs.declared.expr.Fault.{Fault}
use Rattle.tri_expr.specs.Prelude.{Outcome, over, value_of, OnClass, is_in, faults_told, fault_list}
use Rattle.med_query.specs.Query.{Output, senses}
use Rattle.query_answer.specs.declared.leaves.Leaf.{Leaf}
use Rattle.query_answer.specs.declared.running.Running.{Running}
use Rattle.query_answer.specs.Leaves.{AllLift, AreMore, leaf_values}
use Rattle.query_answer.specs.Running.{AllRun, ClassesRun}
use Rattle.query_answer.specs.Staging.{class_staged, class_told}

-- expressions over the values of leaves, and of further ones
pub lift_here : (ls : List Leaf) (es lifted : List Expr) (ps : Tuple) (c : List Tuple) → AllLift ls es lifted → ps ≡ leaf_values ls c → over (senses ps lifted) [] ≡ over (senses [] es) c
lift_here ls es lifted ps c h e = ap (λ (vs : Tuple). over (senses vs lifted) []) e ∙ subst (λ (l : List Leaf). over (senses (leaf_values l c) lifted) [] ≡ over (senses [] es) c) (append-nil ls) (h [] c)

pub lift_more : (ls new : List Leaf) (es lifted : List Expr) → AllLift ls es lifted → AreMore ls new → AllLift new es lifted
lift_more ls new es lifted h m more c = subst (λ (l : List Leaf). over (senses (leaf_values l c) lifted) [] ≡ over (senses [] es) c) (sym (ap (λ (l : List Leaf). l ++ more) m.1 ∙ append_assoc ls m.0 more)) (h (m.0 ++ more) c)

pub more_still : (ls new further : List Leaf) → AreMore ls new → AreMore new further → AreMore ls further
more_still ls new further a b = (a.0 ++ b.0, b.1 ∙ ap (λ (l : List Leaf). l ++ b.0) a.1 ∙ append_assoc ls a.0 b.0)

-- what outcomes make of a class
abbrev shown_by : List Outcome → List Outcome → List Outcome → List Output
shown_by conditions keys items = if is_in conditions then (map value_of keys, map value_of items) ∷ [] else []

abbrev told_by : List Outcome → List Outcome → List Outcome → List Fault
told_by conditions keys items = faults_told conditions ++ (if is_in conditions then fault_list keys ++ fault_list items else [])

module _ (hs ks is gs js ms : List OnClass) (a b : List Tuple) where
  pub same_staged : over hs a ≡ over gs b → over ks a ≡ over js b → over is a ≡ over ms b → class_staged hs ks is a ≡ class_staged gs js ms b
  same_staged e f g = ap (λ (os : List Outcome). shown_by os (over ks a) (over is a)) e ∙ ap (λ (os : List Outcome). shown_by (over gs b) os (over is a)) f ∙ ap (λ (os : List Outcome). shown_by (over gs b) (over js b) os) g

  pub same_told : over hs a ≡ over gs b → over ks a ≡ over js b → over is a ≡ over ms b → class_told hs ks is a ≡ class_told gs js ms b
  same_told e f g = ap (λ (os : List Outcome). told_by os (over ks a) (over is a)) e ∙ ap (λ (os : List Outcome). told_by (over gs b) os (over is a)) f ∙ ap (λ (os : List Outcome). told_by (over gs b) (over js b) os) g

-- one class among all
pub runs_at : (ls : List Leaf) (cs : List (List Tuple)) (gs : List (List Running)) (k : ℕ) (d : List Running) → k < length gs → ClassesRun ls cs gs → AllRun ls (get_or cs k []) (get_or gs k d)
runs_at ls [] [] k d lt h = absurd (omega arith)
runs_at ls [] (g ∷ gs) k d lt h = absurd h
runs_at ls (c ∷ cs) [] k d lt h = absurd h
runs_at ls (c ∷ cs) (g ∷ gs) zero d lt h = h.0
runs_at ls (c ∷ cs) (g ∷ gs) (suc k) d lt h = runs_at ls cs gs k d (omega arith) h.1

pub shown_more : {X Y : Type 0} (f : X → List Y) (xs : List X) (i : ℕ) (d : X) (old new : List Y) → i < length xs → new ≡ old ++ f (get_or xs i d) → old ≡ flat_map f (take i xs) → new ≡ flat_map f (take (i + 1) xs)
shown_more f xs i d old new lt grown inv = grown ∙ rw (inv, take_more xs i d lt, flat_map-append, append-nil (f (get_or xs i d))) refl

pub none_more : {X Y : Type 0} (f : X → List Y) (xs : List X) (i : ℕ) (d : X) → i < length xs → f (get_or xs i d) ≡ [] → flat_map f (take i xs) ≡ [] → flat_map f (take (i + 1) xs) ≡ []
none_more f xs i d lt here inv = rw (take_more xs i d lt, flat_map-append, inv, here) refl

pub told_at : {X : Type 0} (f : X → List Fault) (xs : List X) (i : ℕ) (d : X) (c : Fault) → i < length xs → Contains (f (get_or xs i d)) c → Contains (flat_map f xs) c
told_at f [] i d c lt h = absurd (omega arith)
told_at f (x ∷ xs) zero d c lt h = Contains-append_left (f x) (flat_map f xs) c h
told_at f (x ∷ xs) (suc i) d c lt h = Contains-append_right (f x) (flat_map f xs) c (told_at f xs i d c (omega arith) h)

-- what a group shows is what its class shows
module _ (ls : List Leaf) (having keys items hs ks is : List Expr) (class : List Tuple) (ps : Tuple) (h : AllLift ls having hs) (k : AllLift ls keys ks) (i : AllLift ls items is) (e : ps ≡ leaf_values ls class) where
  pub group_staged : class_staged (senses ps hs) (senses ps ks) (senses ps is) [] ≡ class_staged (senses [] having) (senses [] keys) (senses [] items) class
  group_staged = same_staged (senses ps hs) (senses ps ks) (senses ps is) (senses [] having) (senses [] keys) (senses [] items) [] class (lift_here ls having hs ps class h e) (lift_here ls keys ks ps class k e) (lift_here ls items is ps class i e)

  pub group_told : class_told (senses ps hs) (senses ps ks) (senses ps is) [] ≡ class_told (senses [] having) (senses [] keys) (senses [] items) class
  group_told = same_told (senses ps hs) (senses ps ks) (senses ps is) (senses [] having) (senses [] keys) (senses [] items) [] class (lift_here ls having hs ps class h e) (lift_here ls keys ks ps class k e) (lift_here ls items is ps class i e)
