-- Lemmas on what is known before and after calls.
use Rattle.std.proofs.Common.{Option, Some, None}
use Rattle.fed_stream.specs.Known.{Known}

pub known_self : {A : Type 0} (a : Option A) (P : A → A → Type 0) → ((x : A) → P x x) → Known a a P
known_self None P f = tt
known_self (Some x) P f = f x

pub known_then : {A : Type 0} (a b c : Option A) (P Q R : A → A → Type 0) → ((x y z : A) → P x y → Q y z → R x z) → Known a b P → Known b c Q → Known a c R
known_then None b c P Q R f p q = tt
known_then (Some x) None c P Q R f p q = absurd p
known_then (Some x) (Some y) None P Q R f p q = absurd q
known_then (Some x) (Some y) (Some z) P Q R f p q = f x y z p q

pub known_map : {A : Type 0} (a b : Option A) (P Q : A → A → Type 0) → ((x y : A) → P x y → Q x y) → Known a b P → Known a b Q
known_map None b P Q f p = tt
known_map (Some x) None P Q f p = absurd p
known_map (Some x) (Some y) P Q f p = f x y p
