use Rattle.std.proofs.Common.{◌≡◌, ◌++◌}
use Rattle.tw_terms.specs.OpenView.{open_type_of}
use Rattle.lf_checks.specs.Parts.{shape}
use Rattle.tw_search.proofs.occurs.open_shape_of.Given as goal

-- the marks so far, and those of what is left
abbrev pub invariant-loop-rest : goal.invariant-loop-rest
invariant-loop-rest l = shape (open_type_of l.ty) ≡ l.marks.items ++ shape (open_type_of l.rest)
