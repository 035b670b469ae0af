use Rattle.std.proofs.Common.{◌≡◌, ◌∙◌, arith}
use Rattle.lf.specs.Syntax.{variable, root}
use Rattle.lf_closures.specs.Environments.{found, stays, closure}
use Rattle.lf_closures.proofs.Steps.{closure_applies_by, closure_value_by, variable_value_by}
use Rattle.tw_terms.specs.View.{term_of, spine_of, args_of, skeleton_of}
use Rattle.tw_hered.specs.View.{environment_of}
use Rattle.tw_hered.proofs.Environments.{environments}
use Rattle.tw_hered.proofs.Making.{none_made}
use Rattle.tw_hered.proofs.head.take_step.Goals as goal

pub enter-requires-clause-applies : goal.enter-requires-clause-applies
enter-requires-clause-applies c =
    let m : term_of c.args.term.now ≡ root (variable c.in-Root-Var-default.variable) (spine_of c.in-Root-Var-default.spine) = grind (arith, environments) in
    let s : spine_of c.in-Root-Var-default.spine ≡ args_of c.deref-in-Closure.result.now = grind (arith, environments) in
    let f : found (environment_of c.args.environment.now) c.in-Root-Var-default.variable ≡ closure (skeleton_of c.in-Closure.closure.skeleton.now) (term_of c.in-Closure.closure.term.now) (environment_of c.in-Closure.closure.scope.now) c.in-Closure.closure.binders = grind (arith, environments) in
    closure_applies_by (environment_of c.args.environment.now) (term_of c.args.term.now) c.in-Root-Var-default.variable (spine_of c.in-Root-Var-default.spine) (args_of c.deref-in-Closure.result.now) (skeleton_of c.in-Closure.closure.skeleton.now) (term_of c.in-Closure.closure.term.now) (environment_of c.in-Closure.closure.scope.now) c.in-Closure.closure.binders m s f c.requires

pub returns-in-Variable-clause-value : goal.returns-in-Variable-clause-value
returns-in-Variable-clause-value c =
    let m : term_of c.args.term.now ≡ root (variable c.in-Root-Var-default.variable) (spine_of c.in-Root-Var-default.spine) = grind (arith, environments) in
    let f : found (environment_of c.args.environment.now) c.in-Root-Var-default.variable ≡ stays c.in-Variable.renamed = grind (arith, environments) in
    let r = variable_value_by (environment_of c.args.environment.now) (term_of c.args.term.now) c.in-Root-Var-default.variable (spine_of c.in-Root-Var-default.spine) c.in-Variable.renamed m f in
    grind (arith, environments, r)

pub returns-in_ok-enter-in-Closure-clause-value : goal.returns-in_ok-enter-in-Closure-clause-value
returns-in_ok-enter-in-Closure-clause-value c =
    let m : term_of c.args.term.now ≡ root (variable c.in-Root-Var-default.variable) (spine_of c.in-Root-Var-default.spine) = grind (arith, environments) in
    let s : spine_of c.in-Root-Var-default.spine ≡ args_of c.deref-in-Closure.result.now = grind (arith, environments) in
    let f : found (environment_of c.args.environment.now) c.in-Root-Var-default.variable ≡ closure (skeleton_of c.in-Closure.closure.skeleton.now) (term_of c.in-Closure.closure.term.now) (environment_of c.in-Closure.closure.scope.now) c.in-Closure.closure.binders = grind (arith, environments) in
    c.in_ok-enter-in-Closure.ensures.value ∙ closure_value_by (environment_of c.args.environment.now) (term_of c.args.term.now) c.in-Root-Var-default.variable (spine_of c.in-Root-Var-default.spine) (args_of c.deref-in-Closure.result.now) (skeleton_of c.in-Closure.closure.skeleton.now) (term_of c.in-Closure.closure.term.now) (environment_of c.in-Closure.closure.scope.now) c.in-Closure.closure.binders m s f

pub enter-requires-clause-made : goal.enter-requires-clause-made
enter-requires-clause-made c = none_made (environment_of c.args.environment.now) c.deref-in-Closure.result.now

pub returns-then-branch-clause-value : goal.returns-then-branch-clause-value
returns-then-branch-clause-value c =
    let m : term_of c.args.term.now ≡ root (variable c.in-Root-Var-default.variable) (spine_of c.in-Root-Var-default.spine) = grind (arith, environments) in
    let s : spine_of c.in-Root-Var-default.spine ≡ args_of c.deref-then-branch.result.now = grind (arith, environments) in
    let f : found (environment_of c.args.environment.now) c.in-Root-Var-default.variable ≡ closure (skeleton_of c.in-Closure.closure.skeleton.now) (term_of c.in-Closure.closure.term.now) (environment_of c.in-Closure.closure.scope.now) c.in-Closure.closure.binders = grind (arith, environments) in
    closure_value_by (environment_of c.args.environment.now) (term_of c.args.term.now) c.in-Root-Var-default.variable (spine_of c.in-Root-Var-default.spine) (args_of c.deref-then-branch.result.now) (skeleton_of c.in-Closure.closure.skeleton.now) (term_of c.in-Closure.closure.term.now) (environment_of c.in-Closure.closure.scope.now) c.in-Closure.closure.binders m s f

pub returns-then-branch-clause-fits : goal.returns-then-branch-clause-fits
returns-then-branch-clause-fits c =
    let m : term_of c.args.term.now ≡ root (variable c.in-Root-Var-default.variable) (spine_of c.in-Root-Var-default.spine) = grind (arith, environments) in
    let s : spine_of c.in-Root-Var-default.spine ≡ args_of c.deref-then-branch.result.now = grind (arith, environments) in
    let f : found (environment_of c.args.environment.now) c.in-Root-Var-default.variable ≡ closure (skeleton_of c.in-Closure.closure.skeleton.now) (term_of c.in-Closure.closure.term.now) (environment_of c.in-Closure.closure.scope.now) c.in-Closure.closure.binders = grind (arith, environments) in
    closure_applies_by (environment_of c.args.environment.now) (term_of c.args.term.now) c.in-Root-Var-default.variable (spine_of c.in-Root-Var-default.spine) (args_of c.deref-then-branch.result.now) (skeleton_of c.in-Closure.closure.skeleton.now) (term_of c.in-Closure.closure.term.now) (environment_of c.in-Closure.closure.scope.now) c.in-Closure.closure.binders m s f c.requires
