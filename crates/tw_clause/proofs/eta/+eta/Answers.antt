use Rattle.std.proofs.Common.{◌≡◌, ◌∙◌, ap, arith, sym}
use Rattle.lf.specs.Syntax.{root, variable}
use Rattle.lf_checks.specs.Strict.{eta_at}
use Rattle.tw_terms.specs.View.{term_of, spine_of}
use Rattle.tw_terms.proofs.Args.{types}
use Rattle.tw_clause.proofs.Patterns.{eta_same, eta_other, on_value}
use Rattle.tw_clause.proofs.eta.+eta.Goals as goal

pub is_eta_variable-returns-then-head-variable : goal.is_eta_variable-returns-then-head-variable
is_eta_variable-returns-then-head-variable t c =
    let e : term_of c.args.term.now ≡ root (variable c.in-Root-Var-default.head) (spine_of c.in-Root-Var-default.spine) = grind (arith, types) in
    on_value c.are_new_variables.result _ _ (λ b h. h ∙ sym (ap (eta_at c.args.lambdas c.args.variable) e ∙ eta_same c.args.lambdas c.args.variable c.in-Root-Var-default.head (spine_of c.in-Root-Var-default.spine) c.if-head-variable.true)) c.are_new_variables.ensures

pub is_eta_variable-returns-else-head-variable : goal.is_eta_variable-returns-else-head-variable
is_eta_variable-returns-else-head-variable t c =
    let e : term_of c.args.term.now ≡ root (variable c.in-Root-Var-default.head) (spine_of c.in-Root-Var-default.spine) = grind (arith, types) in
    sym (ap (eta_at c.args.lambdas c.args.variable) e ∙ eta_other c.args.lambdas c.args.variable c.in-Root-Var-default.head (spine_of c.in-Root-Var-default.spine) c.if-head-variable.false)
