use Rattle.std.proofs.Common.{◌≡◌, arith, rules, subst}
use Rattle.tw_hered.specs.declared.fault.HeredFault.TheVariants.{TooDeep}
use Rattle.tw_terms.specs.OpenView.{open_term_of, open_type_of}
use Rattle.tw_elaborate.specs.Operators.{TakesArgumentDeep}
use Rattle.tw_elaborate.specs.declared.waiting.Waiting.{Waiting}
use Rattle.tw_open.proofs.DeepKinds.{fault_of_call}
use Rattle.tw_open.proofs.Steps.{steps}
use Rattle.tw_elaborate.proofs.waiting.resume.Goals as goal

pub returns-in_err-operator-clause-too_deep : goal.returns-in_err-operator-clause-too_deep
returns-in_err-operator-clause-too_deep c = λ is.
    let e : c.into_inner-row.result ≡ c.args.row.value = first_of (search rules, grind (arith, steps)) in
    let h = c.in_err-operator.ensures.too_deep (fault_of_call c.from_residual.result c.in_err-operator.field-0.0 TooDeep (search rules) is) in
    subst (λ (r : Waiting). TakesArgumentDeep r.operator (open_type_of r.domain) (open_type_of r.range) (open_term_of c.args.arg)) e h
