use Rattle.std.proofs.Common.{◌≡◌, map, arith}
use Rattle.lf.specs.Syntax.{variable}
use Rattle.tw_terms.specs.OpenView.{open_head_of}
use Rattle.tw_terms.specs.View.{skeleton_of}
use Rattle.tw_putting.proofs.Openings.{openings}
use Rattle.tests_substitution.specs.Kept.{heads_of}
use Rattle.tests_substitution.proofs.Heads.{of_variable}
use Rattle.tests_substitution.proofs.skeletons.head_skeleton.Goals as goal

pub returns-in-Var : goal.returns-in-Var
returns-in-Var c =
    let e : open_head_of c.args.head ≡ variable c.in-Var.variable = grind (arith, openings) in
    of_variable (heads_of c.args.signature.now c.args.store.now.now) (map skeleton_of c.args.variables.now) (open_head_of c.args.head) c.in-Var.variable c.variable_skeleton.result e c.variable_skeleton.ensures
