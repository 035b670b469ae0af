use Rattle.std.proofs.Common.{◌≡◌, arith}
use Rattle.lf.specs.Syntax.{pi}
use Rattle.tw_terms.specs.View.{type_of}
use Rattle.tw_terms.proofs.Args.{types}
use Rattle.tw_mode.specs.Allowed.{allowed_in}
use Rattle.tw_mode.proofs.Needing.{pi_hypotheses}
use Rattle.tw_clause.proofs.Patterns.{on_value}
use Rattle.tw_mode.proofs.inputs.+hypotheses_use.Goals as goal

pub returns-in_ok-under_one-in-Pi : goal.returns-in_ok-under_one-in-Pi
returns-in_ok-under_one-in-Pi t c =
    let e : type_of c.args.goal.now ≡ pi (type_of c.deref.result.now) (type_of c.deref-then-branch.result.now) = grind (arith, types) in
    on_value c.hypotheses_use.result _ _ (λ b d. pi_hypotheses c.in_ok-uses_type-in-Pi.field-0 b (allowed_in c.args.allowed.now) (allowed_in c.in_ok-under_one-in-Pi.field-0) (type_of c.args.goal.now) (type_of c.deref.result.now) (type_of c.deref-then-branch.result.now) e c.in_ok-under_one-in-Pi.ensures.set c.if-branch.true c.in_ok-uses_type-in-Pi.ensures d) c.hypotheses_use.ensures
