use Rattle.std.proofs.Common.{◌≡◌, arith}
use Rattle.lf.specs.Syntax.{pi}
use Rattle.tw_terms.specs.View.{type_of}
use Rattle.tw_terms.proofs.Args.{types}
use Rattle.tw_mode.specs.Allowed.{allowed_in}
use Rattle.tw_clause.proofs.Patterns.{on_value}
use Rattle.tw_mode.proofs.Using.{pi_uses}
use Rattle.tw_mode.proofs.uses.+uses_type.Goals as goal

pub returns-in_ok-under_one-in-Pi : goal.returns-in_ok-under_one-in-Pi
returns-in_ok-under_one-in-Pi t c =
    let e : type_of c.args.ty.now ≡ pi (type_of c.deref.result.now) (type_of c.deref-then-branch.result.now) = grind (arith, types) in
    on_value c.uses_type-then-branch.result _ _ (λ b d. pi_uses c.in_ok-uses_type-in-Pi.field-0 b (allowed_in c.args.allowed.now) (allowed_in c.in_ok-under_one-in-Pi.field-0) (type_of c.args.ty.now) (type_of c.deref.result.now) (type_of c.deref-then-branch.result.now) e c.in_ok-under_one-in-Pi.ensures.set c.if-branch.true c.in_ok-uses_type-in-Pi.ensures d) c.uses_type-then-branch.ensures
