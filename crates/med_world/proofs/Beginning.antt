-- A new engine, with no object and no source.
use Rattle.std.proofs.Common.{◌≡◌, ℕ, List, [], Option, Some, None, slice_get, replicate, refl, arith, lit≤}
use Rattle.std.specs.List.{IsDistinct}
use Rattle.med_syntax.specs.Tree.{Name}
use Rattle.fdw_api.specs.State.{BoxState}
use Rattle.med_catalog.specs.Objects.{no_objects}
use Rattle.med_value.specs.Limits.{session_count}
use Rattle.sql_meaning.specs.Prelude.{IsUser, empty_world}
use Rattle.med_world.specs.Open.{Seated}
use Rattle.med_world.specs.Engine.{AreSound, KeepsScans, IsSound, Agrees}
use Rattle.med_world.specs.Laws.{empty_shown}
use Rattle.med_world.proofs.Sessions.{all_shut, shut_seats, shut_many, none_open}

no_box : (slot : ℕ) (s : BoxState) → slice_get {X = Option BoxState} [] slot ≡ Some (Some s) → ⊥
no_box slot s e = cc

no_place : {X : Type 0} (k : ℕ) (x : X) → slice_get {X = X} [] k ≡ Some x → ⊥
no_place k x e = cc

empty_objects : (owner : Name) → IsUser owner → AreSound (no_objects owner)
unfolding IsDistinct
empty_objects owner is_user = record {
  owner = is_user;
  server_names = tt;
  sources_once = tt;
  table_names = tt;
  served = λ t c. absurd (let within = c.1 in omega arith);
}

-- no box has a scan, and no session is open
empty_scans : (owner : Name) (seats : List (Option Seated)) → seats ≡ replicate session_count None → KeepsScans (empty_shown owner seats)
empty_scans owner seats closed = record {
  unstaged = λ slot s at. absurd (no_box slot s at);
  running = λ place c is_open. absurd (none_open seats closed place c is_open);
  owned = λ slot number s scan at live. absurd (no_box slot s at);
  once = λ j k c d slot number x. absurd (none_open seats closed j c x);
}

pub empty_sound : (owner : Name) (seats : List (Option Seated)) → IsUser owner → seats ≡ replicate session_count None → IsSound (empty_shown owner seats)
unfolding IsDistinct
empty_sound owner seats is_user closed = record {
  objects = empty_objects owner is_user;
  places = refl;
  sources = lit≤ tt;
  sessions = shut_many seats closed;
  seated = shut_seats seats closed;
  source_names = tt;
  scans = empty_scans owner seats closed;
  sound_boxes = λ slot s at. absurd (no_box slot s at);
  takes = λ place l s at_l at_s. absurd (no_box place s at_s);
  servers_stand = λ s c. absurd (let within = c.1 in omega arith);
  many = refl;
  tables_bound = λ k t a at_t at_a. absurd (no_place k t at_t);
  bound_attached = λ slot number s b at is. absurd (no_box slot s at);
  bound_once = λ j k a b at_j at_k. absurd (no_place j a at_j);
}

pub empty_agrees : (owner : Name) (seats : List (Option Seated)) → seats ≡ replicate session_count None → Agrees (empty_shown owner seats) (empty_world owner)
empty_agrees owner seats closed = record {
  catalog = refl;
  sources = refl;
  rows = tt;
  sessions = λ sid is. all_shut [] (empty_world owner) seats sid closed;
  scans = empty_scans owner seats closed;
}
