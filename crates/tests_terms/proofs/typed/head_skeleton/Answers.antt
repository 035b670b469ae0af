use Rattle.std.proofs.Common.{◌≡◌, Some, slice_get, map, arith}
use Rattle.lf.specs.Syntax.{variable}
use Rattle.lf.specs.SkeletonTyping.{HeadSkeleton}
use Rattle.tw_terms.specs.View.{head_of, skeleton_of}
use Rattle.tw_hered.specs.Known.{heads_of}
use Rattle.tw_hered.proofs.Environments.{environments}
use Rattle.tw_hered.proofs.Known.{if_some_map, known_variable}
use Rattle.tests_terms.proofs.typed.head_skeleton.Goals as goal

pub returns-in-Var : goal.returns-in-Var
returns-in-Var c =
    let e : head_of c.args.head ≡ variable c.in-Var.number = grind (arith, environments) in
    if_some_map c.listed-in-Var.result (λ t. slice_get (map (λ x. skeleton_of x.now) c.args.variables.now) c.in-Var.number ≡ Some (skeleton_of t.now)) (λ t. HeadSkeleton (heads_of (map (λ x. skeleton_of x.now) c.args.constants.now)) (map (λ x. skeleton_of x.now) c.args.variables.now) (head_of c.args.head) (skeleton_of t.now)) (λ t g. known_variable (map (λ x. skeleton_of x.now) c.args.constants.now) (map (λ x. skeleton_of x.now) c.args.variables.now) (head_of c.args.head) c.in-Var.number (skeleton_of t.now) e g) c.listed-in-Var.ensures
