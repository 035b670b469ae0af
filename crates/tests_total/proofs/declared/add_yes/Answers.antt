use Rattle.std.proofs.Common.{◌∙◌}
use Rattle.tests_total.proofs.Entries.{added, stands_as, typed_as, yes_c_stands, yes_stands}
use Rattle.tests_total.proofs.declared.add_yes.Goals as goal

pub add-requires : goal.add-requires
add-requires c = stands_as c.requires c.in_ok-predicate.ensures (yes_stands _)

pub add-requires-2 : goal.add-requires-2
add-requires-2 c = stands_as (added c.in_ok-add.ensures.added c.requires c.in_ok-predicate.ensures) (c.in_ok-rule.ensures ∙ typed_as c.in_ok-yes_c_type.ensures) (yes_c_stands _)

pub returns : goal.returns
returns c = added c.in_ok-add-2.ensures.added (added c.in_ok-add.ensures.added c.requires c.in_ok-predicate.ensures) (c.in_ok-rule.ensures ∙ typed_as c.in_ok-yes_c_type.ensures)
