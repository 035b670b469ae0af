use Rattle.std.proofs.Common.{◌≡◌, Err, ap, arith, rules}
use Rattle.lf.specs.Syntax.{lambda}
use Rattle.tw_terms.specs.OpenView.{open_term_of}
use Rattle.tw_hered.specs.declared.fault.HeredFault.TheVariants.{TooDeep}
use Rattle.tw_open.proofs.Steps.{steps}
use Rattle.tw_elaborate.proofs.operators.reduced.Goals as goal

pub substitute-requires : goal.substitute-requires
substitute-requires c =
    let m : open_term_of c.args.function.now ≡ lambda (open_term_of c.deref.result.now) = grind (arith, steps) in
    c.requires (open_term_of c.deref.result.now) m

pub returns-in_err-substitute-in-Lam-clause-too_deep : goal.returns-in_err-substitute-in-Lam-clause-too_deep
returns-in_err-substitute-in-Lam-clause-too_deep c = λ is.
    let m : open_term_of c.args.function.now ≡ lambda (open_term_of c.deref.result.now) = grind (arith, steps) in
    let e : c.from_residual.result ≡ Err c.in_err-substitute-in-Lam.field-0.0 = search rules in
    let f : c.in_err-substitute-in-Lam.field-0.0 ≡ TooDeep = cc (e, is) in
    record { body = open_term_of c.deref.result.now; is = m; deep = c.in_err-substitute-in-Lam.ensures.too_deep (ap Err f) }
