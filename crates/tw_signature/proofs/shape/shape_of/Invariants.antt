use Rattle.std.proofs.Common.{◌≡◌, ◌++◌, length}
use Rattle.lf.specs.Entries.{quantifiers}
use Rattle.lf_unification.specs.Search.{occurs_type}
use Rattle.lf_checks.specs.Parts.{shape}
use Rattle.tw_terms.specs.View.{type_of}
use Rattle.tw_signature.specs.Marks.{marked}
use Rattle.tw_signature.proofs.shape.shape_of.Given as goal

abbrev pub decreases-loop-rest : goal.decreases-loop-rest
decreases-loop-rest l = quantifiers (type_of l.rest)

-- the marks so far with those of the rest, and then the marks of its own quantifiers
abbrev pub invariant-loop-rest : goal.invariant-loop-rest
invariant-loop-rest l = marked (length l.marks.items) (λ i. occurs_type i (type_of l.rest)) l.marks.items ++ shape (type_of l.rest) ≡ shape (type_of l.fn.ty)
