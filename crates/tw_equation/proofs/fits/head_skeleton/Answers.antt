use Rattle.std.proofs.Common.{◌≡◌, map, arith}
use Rattle.lf.specs.Entries.{signature_of}
use Rattle.lf.specs.Skeletons.{constant_skeletons}
use Rattle.lf.specs.Syntax.{variable}
use Rattle.tw_terms.specs.View.{head_of, skeleton_of}
use Rattle.tw_terms.proofs.Args.{types_and_skeletons}
use Rattle.tw_equation.proofs.Skeletons.{of_variable}
use Rattle.tw_equation.proofs.fits.head_skeleton.Goals as goal

pub returns-in-Var : goal.returns-in-Var
returns-in-Var c =
    let e : head_of c.args.head ≡ variable c.in-Var.variable = grind (arith, types_and_skeletons) in
    of_variable (constant_skeletons (signature_of c.args.signature.now)) (map skeleton_of c.args.variables.now) (head_of c.args.head) c.in-Var.variable c.variable_skeleton.result e c.variable_skeleton.ensures
