use Rattle.lf.specs.Entries.{signature_of}
use Rattle.tw_open.specs.View.{open_kind_of}
use Rattle.tw_elaborate.proofs.ComparedKinds.{IsComparingKinds}
use Rattle.tw_elaborate.proofs.equations.compare_kinds.Given as goal

-- what is left of the two kinds
abbrev pub invariant-loop-found : goal.invariant-loop-found
invariant-loop-found l = IsComparingKinds (signature_of l.signature) l.fn.state.locals (open_kind_of l.fn.found) (open_kind_of l.fn.expected) l.context (open_kind_of l.found) (open_kind_of l.expected) l.fn.state l.state
