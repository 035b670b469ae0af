use Rattle.std.proofs.Common.{◌∙◌, arith}
use Rattle.tw_terms.specs.declared.canonical.Term.{Root}
use Rattle.tw_terms.specs.View.{head_of, term_of, spine_of, skeleton_of}
use Rattle.tw_terms.proofs.Views.{term_of-Root}
use Rattle.tw_hered.specs.declared.fault.HeredFault.TheVariants.{TooDeep}
use Rattle.tw_hered.proofs.Arguments.{same_fault}
use Rattle.tw_hered.proofs.Expanded.{expanded_form, too_few_levels, arguments_too_deep, shallow_form}
use Rattle.tw_hered.proofs.expand.+expand.Goals as goal

pub expand_head-returns-then-levels-lambdas-clause-too_deep : goal.expand_head-returns-then-levels-lambdas-clause-too_deep
expand_head-returns-then-levels-lambdas-clause-too_deep t c = λ f. too_few_levels (skeleton_of c.args.skeleton.now) (head_of c.args.head) c.in_ok-lambdas.lambdas c.args.levels c.in_ok-lambdas.ensures (omega arith)

pub expand_head-returns-in_ok-under_lambdas-in-Ok-clause-ok : goal.expand_head-returns-in_ok-under_lambdas-in-Ok-clause-ok
expand_head-returns-in_ok-under_lambdas-in-Ok-clause-ok t c = c.in_ok-under_lambdas-in-Ok.ensures ∙ expanded_form (skeleton_of c.args.skeleton.now) (head_of c.args.head) (head_of c.in_ok-head.head) c.in_ok-lambdas.lambdas (term_of (Root c.in_ok-head.head c.in-Ok.spine)) (spine_of c.in-Ok.spine) c.in_ok-lambdas.ensures (term_of-Root c.in_ok-head.head c.in-Ok.spine) c.in_ok-head.ensures c.in-Ok.ensures.ok

pub expand_head-returns-in_ok-under_lambdas-in-Ok-clause-shallow : goal.expand_head-returns-in_ok-under_lambdas-in-Ok-clause-shallow
expand_head-returns-in_ok-under_lambdas-in-Ok-clause-shallow t c =
    let r = c.in_ok-under_lambdas-in-Ok.ensures ∙ expanded_form (skeleton_of c.args.skeleton.now) (head_of c.args.head) (head_of c.in_ok-head.head) c.in_ok-lambdas.lambdas (term_of (Root c.in_ok-head.head c.in-Ok.spine)) (spine_of c.in-Ok.spine) c.in_ok-lambdas.ensures (term_of-Root c.in_ok-head.head c.in-Ok.spine) c.in_ok-head.ensures c.in-Ok.ensures.ok in
    shallow_form (skeleton_of c.args.skeleton.now) (head_of c.args.head) c.in_ok-lambdas.lambdas c.args.levels (spine_of c.in-Ok.spine) (term_of c.in_ok-under_lambdas-in-Ok.field-0) c.in_ok-lambdas.ensures (omega arith) c.in-Ok.ensures.ok c.in-Ok.ensures.shallow r

pub expand_head-returns-in-Err-clause-too_deep : goal.expand_head-returns-in-Err-clause-too_deep
expand_head-returns-in-Err-clause-too_deep t c = λ f. arguments_too_deep (skeleton_of c.args.skeleton.now) (head_of c.args.head) c.in_ok-lambdas.lambdas c.args.levels c.in_ok-lambdas.ensures (omega arith) (c.in-Err.ensures.too_deep (same_fault c.in-Err.fault TooDeep f))
