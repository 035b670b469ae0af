use Rattle.std.proofs.Common.{◌≡◌}
use Rattle.tw_elaborate.specs.FamilyRows.{family_applied_to}
use Rattle.tw_elaborate.specs.Operators.{written_terms}
use Rattle.tw_written.specs.View.{written_type_of}
use Rattle.tw_elaborate.proofs.waiting.family_row.Given as goal

abbrev pub invariant-loop-head : goal.invariant-loop-head
invariant-loop-head l = family_applied_to (written_type_of l.head) (written_terms l.args.items) ≡ written_type_of l.fn.written
