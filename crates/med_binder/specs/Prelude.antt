-- The names of this crate that the crates above cite most, passed on from one place. Declares nothing.
pub use Rattle.med_binder.specs.Alike.{ChainAlike, ComparesAlike, CoreAlike, FormAlike, JoinAlike, all_kinds, core_kinds, from_kinds, kinds, kinds_among, kinds_between}
pub use Rattle.med_binder.specs.Barred.{query_right_causes, reading_causes, table_causes, target_right_causes, writing_causes}
pub use Rattle.med_binder.specs.Binding.{IsMeant, bound_kinds}
pub use Rattle.med_binder.specs.Counted.{CoreCounts, FormCounts, SaysWidth, bound_widths, chain_numbers, core_numbers, core_widths, joined_number}
pub use Rattle.med_binder.specs.Looked.{TypesOver, query_in}
pub use Rattle.med_binder.specs.Place.{Place, entry_place}
pub use Rattle.med_binder.specs.Places.{ArePlaces, Attached, IsPlaceOf, attached}
pub use Rattle.med_binder.specs.Queries.{IsBindable, NotBound, QueryNames, QueryTypes, meant_by}
pub use Rattle.med_binder.specs.Tables.{AreNamedOnce, shape_of, shapes}
pub use Rattle.med_binder.specs.Turns.{TellsInTurn}
pub use Rattle.med_binder.specs.Within.{AreWithin, ChainWithin, CoreWithin, FormWithin, IsWithin, JoinWithin, width_between, widths, widths_of}
