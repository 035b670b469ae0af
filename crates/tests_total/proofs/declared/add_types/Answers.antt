use Rattle.std.proofs.Common.{◌∙◌}
use Rattle.tests_total.proofs.Entries.{added, e_stands, stands_as, t_stands, type_stands, typed_as}
use Rattle.tests_total.proofs.declared.add_types.Goals as goal

pub add-requires : goal.add-requires
add-requires c = stands_as c.requires c.in_ok-family.ensures (type_stands _)

pub add-requires-2 : goal.add-requires-2
add-requires-2 c = stands_as (added c.in_ok-add.ensures.added c.requires c.in_ok-family.ensures) (c.in_ok-constant.ensures ∙ typed_as c.e_type.ensures) (e_stands _)

pub add-requires-3 : goal.add-requires-3
add-requires-3 c = stands_as (added c.in_ok-add-2.ensures.added (added c.in_ok-add.ensures.added c.requires c.in_ok-family.ensures) (c.in_ok-constant.ensures ∙ typed_as c.e_type.ensures)) c.in_ok-family-2.ensures (t_stands _)

pub returns : goal.returns
returns c = added c.in_ok-add-3.ensures.added (added c.in_ok-add-2.ensures.added (added c.in_ok-add.ensures.added c.requires c.in_ok-family.ensures) (c.in_ok-constant.ensures ∙ typed_as c.e_type.ensures)) c.in_ok-family-2.ensures
