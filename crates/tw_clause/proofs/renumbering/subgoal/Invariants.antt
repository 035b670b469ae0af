use Rattle.std.proofs.Common.{◌≡◌}
use Rattle.lf.specs.AtOnce.{lift_renaming_by}
use Rattle.lf.specs.Entries.{quantifiers}
use Rattle.lf.specs.Syntax.{rename_type}
use Rattle.lf_unification.specs.Offering.{pi_over}
use Rattle.tw_terms.specs.View.{type_of}
use Rattle.tw_clause.specs.Numbers.{numbering}
use Rattle.tw_clause.proofs.renumbering.subgoal.Given as goal

abbrev pub decreases-loop-rest : goal.decreases-loop-rest
decreases-loop-rest l = quantifiers (type_of l.rest)

-- the rest, closed over the context so far
abbrev pub invariant-loop-rest : goal.invariant-loop-rest
invariant-loop-rest l = pi_over l.context (rename_type (lift_renaming_by l.under (numbering l.numbers)) (type_of l.rest)) ≡ rename_type (numbering l.numbers) (type_of l.fn.ty)
