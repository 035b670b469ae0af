use Rattle.std.proofs.Common.{◌≡◌, arith}
use Rattle.lf.specs.Syntax.{pi}
use Rattle.tw_terms.specs.View.{type_of}
use Rattle.tw_terms.proofs.Args.{types}
use Rattle.tw_mode.specs.Allowed.{allowed_in}
use Rattle.tw_mode.proofs.Needing.{goal_inside}
use Rattle.tw_clause.proofs.Patterns.{on_value}
use Rattle.tw_mode.proofs.inputs.+first_outside_goal.Goals as goal

pub returns-in_ok-under_one-in-Pi : goal.returns-in_ok-under_one-in-Pi
returns-in_ok-under_one-in-Pi t c =
    let e : type_of c.args.goal.now ≡ pi (type_of c.in-Pi.field-0.value) (type_of c.deref.result.now) = grind (arith, types) in
    on_value c.first_outside_goal.result _ _ (λ o h. goal_inside (allowed_in c.args.allowed.now) (allowed_in c.in_ok-under_one-in-Pi.field-0) c.args.places.now (type_of c.args.goal.now) (type_of c.in-Pi.field-0.value) (type_of c.deref.result.now) o e c.in_ok-under_one-in-Pi.ensures.set h) c.first_outside_goal.ensures
