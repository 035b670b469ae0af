use Rattle.lf.specs.Entries.{signature_of}
use Rattle.tw_terms.specs.OpenView.{open_type_of}
use Rattle.tw_elaborate.specs.Compared.{parts_left}
use Rattle.tw_elaborate.proofs.Compared.{IsComparing}
use Rattle.tw_elaborate.proofs.equations.compare_in.Given as goal

-- what is left to be compared
abbrev pub invariant-loop-next : goal.invariant-loop-next
invariant-loop-next l = IsComparing (signature_of l.signature) l.fn.context (open_type_of l.fn.found) (open_type_of l.fn.expected) l.left.items l.fn.state l.state

abbrev pub decreases-loop-next : goal.decreases-loop-next
decreases-loop-next l = parts_left l.left.items
