use Rattle.std.proofs.Common.{◌≡◌, List, ℕ, ap, refl, subst}
use Rattle.lf.specs.Entries.{Entry}
use Rattle.tw_query.specs.Runs.{HasCause, MeetsDeep}
use Rattle.tw_query.specs.View.{bound_of}
use Rattle.tw_signature.specs.Goal.{goal_of}
use Rattle.tw_decl.proofs.searching.run.Goals as goal

pub returns-in-Err-TooDeep-clause-cause : goal.returns-in-Err-TooDeep-clause-cause
returns-in-Err-TooDeep-clause-cause c =
    let g = goal_of c.args.goal.now in
    let b = bound_of c.args.bound in
    let deep : MeetsDeep c.signature.result.now g b c.parameters-steps.result.steps = subst (HasCause c.signature.result.now g b c.parameters-steps.result.steps) c.in-Err-TooDeep.field-0-is c.in-Err-TooDeep.ensures.fault in
    let steps : c.parameters-steps.result.steps ≡ c.args.session.now.parameters.steps = ap (λ p. p.steps) c.parameters-steps.ensures in
    (subst (λ (n : ℕ). MeetsDeep c.args.session.now.signature g b n) steps (subst (λ (es : List Entry). MeetsDeep es g b c.parameters-steps.result.steps) c.signature.ensures deep), refl)
