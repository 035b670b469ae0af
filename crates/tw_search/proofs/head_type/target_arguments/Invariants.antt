use Rattle.std.proofs.Common.{◌≡◌}
use Rattle.lf.specs.Entries.{quantifiers}
use Rattle.lf.specs.Variables.{target_arguments}
use Rattle.tw_search.specs.HeadTypes.{head_type_of}
use Rattle.tw_search.proofs.head_type.target_arguments.Given as goal

-- the target of the rest is that of the whole
abbrev pub invariant-loop-range : goal.invariant-loop-range
invariant-loop-range l = target_arguments (head_type_of l.rest) ≡ target_arguments (head_type_of l.ty)

-- the quantifiers that are left
abbrev pub decreases-loop-range : goal.decreases-loop-range
decreases-loop-range l = quantifiers (head_type_of l.rest)
