use Rattle.std.proofs.Common.{◌∙◌}
use Rattle.tests_total.proofs.Entries.{added, ok_c_stands, ok_stands, stands_as, typed_as}
use Rattle.tests_total.proofs.declared.add_ok.Goals as goal

pub add-requires : goal.add-requires
add-requires c = stands_as c.requires c.in_ok-predicate.ensures (ok_stands _)

pub add-requires-2 : goal.add-requires-2
add-requires-2 c = stands_as (added c.in_ok-add.ensures.added c.requires c.in_ok-predicate.ensures) (c.in_ok-constant.ensures ∙ typed_as c.in_ok-ok_c_type.ensures) (ok_c_stands _)

pub returns : goal.returns
returns c = added c.in_ok-add-2.ensures.added (added c.in_ok-add.ensures.added c.requires c.in_ok-predicate.ensures) (c.in_ok-constant.ensures ∙ typed_as c.in_ok-ok_c_type.ensures)
