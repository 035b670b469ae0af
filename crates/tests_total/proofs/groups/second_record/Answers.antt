use Rattle.std.proofs.Common.{◌∙◌, ap}
use Rattle.std.specs.Prelude.{map}
use Rattle.tw_total.specs.View.{order_row_of}
use Rattle.tests_total.proofs.Passed.{first_is_below, second_passes}
use Rattle.tests_total.proofs.groups.second_record.Goals as goal

pub conclude-requires-clause-passed : goal.conclude-requires-clause-passed
conclude-requires-clause-passed c = second_passes c.requires.declared (ap (map order_row_of) c.deref.ensures.value ∙ c.in_ok-group.ensures) c.in_ok-modes.ensures c.in_ok-worlds.ensures c.requires.first

pub conclude-requires-clause-below : goal.conclude-requires-clause-below
conclude-requires-clause-below c = first_is_below c.requires.declared c.requires.first
