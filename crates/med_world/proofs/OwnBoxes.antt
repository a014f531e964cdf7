-- The box that the run of a cursor over one table asks: that of a table which the cursor leases.
use Rattle.std.proofs.Common.{◌≡◌, ◌∙◌, ◌+◌, ℕ, ◌-◌, List, Option, Some, Contains, ap, sym, refl, subst}
use Rattle.std.proofs.lemmas.Option.{same_Some}
use Rattle.med_syntax.specs.Prelude.{Name, CountTree, some_rows, all_rows}
use Rattle.fdw_api.specs.State.{BoxState, scan_of}
use Rattle.scan_loops.specs.Running.{source_at, number_at}
use Rattle.scan_loops.proofs.OwnLemmas.{held_of_levels}
use Rattle.med_exec.specs.declared.running.Rest.{Rest}
use Rattle.med_exec.specs.declared.running.Rest.TheVariants.{Answer, Stream}
use Rattle.med_exec.specs.declared.running.Run.{Run}
use Rattle.med_exec.specs.Pulling.{levels_left, levels_in, slot_in, skip_in, PullsAtMost, many_in, IsBareRun, GivesAsTheyCome}
use Rattle.med_exec.specs.Rests.{scans_of, IsGood, held, IsRunning}
use Rattle.med_exec.proofs.Leaving.{is_some_of}
use Rattle.med_exec.proofs.Left.{run_is_held, held_is_live}
use Rattle.med_world.specs.Open.{Opened, Seated, opened_named}
use Rattle.med_world.specs.Fetching.{IsWithin}
use Rattle.med_world.specs.Seats.{seat_of, opened_in, IsOpenAt}
use Rattle.med_world.specs.Engine.{Shown, LeasesNumber, IsSound, GivesWithin}
use Rattle.med_world.proofs.Lists.{same_bytes}
use Rattle.med_world.proofs.Plainest.{fewer}
use Rattle.med_world.proofs.CursorLists.{named_one}
use Rattle.med_world.proofs.CursorSeats.{open_here, is_here, name_of, has_of, old_seat}

-- it holds a scan of that box
bare_holds : (run : Run) (boxes : List (Option BoxState)) → IsRunning run boxes → IsBareRun (levels_in run) → (number : ℕ) × Contains (held run (slot_in run)) number
unfolding IsRunning held
bare_holds run boxes = by run.rest
  where
    by : (rest : Rest) → IsGood rest boxes → IsBareRun (levels_left rest) → (number : ℕ) × Contains (scans_of rest (source_at (levels_left rest) 0)) number
    by (Answer rows) good bare = absurd bare
    by (Stream s) good bare =
        let number = number_at s.numbers.items 0 in
        let slot = source_at s.levels.items 0 in
        (number, (held_of_levels s.levels.items s.numbers.items slot number good.running.many).1 (0, record { level = good.some; source = refl; number_is = refl }))

module _ (e : Shown) (sid : ℕ) (seat : Seated) (sound : IsSound e) (at : seat_of e.seats sid ≡ Some seat) (name : Name) (o : Opened) (here : opened_named name seat.cursors ≡ Some o) where
  -- of which the cursor leases the table
  own_box : IsBareRun (levels_in o.run) → (number : ℕ) × LeasesNumber e.catalog.tables e.bound o (slot_in o.run) number
  own_box bare =
      let has : Contains seat.cursors o = has_of name seat.cursors o here in
      let there : IsOpenAt e.seats (sid - 1) o = open_here e sid seat sound at o has in
      let good : IsRunning o.run e.boxes = sound.scans.running (sid - 1) o there in
      let holds = bare_holds o.run e.boxes good bare in
      let live = held_is_live o.run e.boxes (slot_in o.run) holds.0 (run_is_held o.run e.boxes good) holds.1 in
      let scan = is_some_of (scan_of live.box holds.0) live.holds in
      let own = sound.scans.owned (slot_in o.run) holds.0 live.box scan.0 live.there scan.1 in
      let same = sound.scans.once own.place (sid - 1) own.cursor o (slot_in o.run) holds.0 own.is_open there own.holds holds.1 in
      let same_place : IsOpenAt e.seats (sid - 1) own.cursor = subst (λ (k : ℕ). IsOpenAt e.seats k own.cursor) same.0 own.is_open in
      let is_o : own.cursor ≡ o = named_one name seat.cursors o own.cursor (old_seat e sid seat sound at).apart here
      (is_here e sid seat sound at own.cursor same_place) (same_bytes own.cursor.name name (same.1 ∙ name_of name seat.cursors o here)) in
      (scan.0.table, subst (λ (c : Opened). LeasesNumber e.catalog.tables e.bound c (slot_in o.run) scan.0.table) is_o own.leased)

  -- so that a run which shows its rows as they come, and was asked for no more than so many, was given no more
  pub gives_within : (asked : CountTree) (times : ℕ) (new : List (Option BoxState)) → GivesAsTheyCome o.run → IsWithin asked times → PullsAtMost (many_in (slot_in o.run) (skip_in o.run + times)) e.boxes new → GivesWithin e sid name asked new
  gives_within (some_rows n) times new bare within most = record {
    slot = slot_in o.run;
    few = fewer (slot_in o.run) times n (skip_in o.run) e.boxes new within bare.1 most;
    own = λ more c there.
        let is : o ≡ c = same_Some o c (sym (ap (opened_in name) at ∙ here) ∙ there) in
        let b = own_box bare.0 in
        (b.0, subst (λ (x : Opened). LeasesNumber e.catalog.tables e.bound x (slot_in o.run) b.0) is b.1);
  }
  gives_within all_rows times new bare within most = tt
