-- What a list wrapper shows as a wrapper.
use Rattle.fdw_api.specs.State.{BoxState}
use Rattle.list_wrapper.specs.declared.list.ListWrapper.{ListWrapper}
use Rattle.list_wrapper.specs.Scans.{list_state}

abbrev pub box_of : ListWrapper → BoxState
box_of w = list_state w.tables.items w.bound.items w.scans w.staged w.next w.pulled
