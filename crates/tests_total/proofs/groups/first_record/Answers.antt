use Rattle.std.proofs.Common.{◌∙◌, ap}
use Rattle.std.specs.Prelude.{map}
use Rattle.tw_total.specs.View.{checked_of, order_row_of}
use Rattle.tests_total.proofs.Passed.{first_is, first_passes}
use Rattle.tests_total.proofs.groups.first_record.Goals as goal

pub conclude-requires-clause-passed : goal.conclude-requires-clause-passed
conclude-requires-clause-passed c = first_passes c.requires (ap (map order_row_of) c.deref.ensures.value ∙ c.in_ok-group.ensures) c.in_ok-modes.ensures c.in_ok-worlds.ensures (ap (map checked_of) c.new.ensures.items)

pub returns : goal.returns
returns c = first_is c.requires (ap (map order_row_of) c.deref.ensures.value ∙ c.in_ok-group.ensures) c.in_ok-modes.ensures c.in_ok-worlds.ensures (ap (map checked_of) c.new.ensures.items) c.in_ok-record.ensures.record
