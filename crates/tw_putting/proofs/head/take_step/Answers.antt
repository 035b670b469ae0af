use Rattle.std.proofs.Common.{◌≡◌, Some, None, slice_get, refl, sym, ap, ◌∙◌, arith}
use Rattle.std.specs.Option.{option_map}
use Rattle.lf.specs.Syntax.{metavariable, variable, root, skeleton}
use Rattle.lf_closures.specs.Environments.{closure, found, move_by, outside, stays}
use Rattle.tw_terms.specs.OpenView.{open_term_of, open_spine_of, open_args_of, open_type_of}
use Rattle.tw_metas.specs.State.{value_of}
use Rattle.tw_putting.specs.Stores.{types_of}
use Rattle.tw_putting.specs.View.{environment_of}
use Rattle.tw_putting.proofs.Environments.{environments}
use Rattle.tw_putting.proofs.Frames.{takes_all_in_frame}
use Rattle.tw_putting.proofs.Walks.{closure_applies_in, closure_value_by, closure_walk_by, constant_value, meta_applies_in, meta_value_by, meta_walk_by, stays_value_by, unbound_value_by, value_is_declared}
use Rattle.tw_putting.proofs.head.take_step.Goals as goal

pub enter-requires : goal.enter-requires
enter-requires c =
    let m : open_term_of c.args.term.now ≡ root (variable c.in-Root-Var-default.variable) (open_spine_of c.in-Root-Var-default.spine) = grind (arith, environments) in
    let s : open_spine_of c.in-Root-Var-default.spine ≡ open_args_of c.deref-in-Closure.result.now = grind (arith, environments) in
    let f : found (environment_of c.args.environment.now) c.in-Root-Var-default.variable ≡ closure (skeleton (open_type_of c.in-Closure.closure.ty.now)) (open_term_of c.in-Closure.closure.term.now) (environment_of c.in-Closure.closure.scope.now) c.in-Closure.closure.binders = grind (arith, environments) in
    takes_all_in_frame c.requires.frame (skeleton (open_type_of c.in-Closure.closure.ty.now)) (open_term_of c.in-Closure.closure.term.now) (move_by c.in-Closure.closure.binders (environment_of c.in-Closure.closure.scope.now)) (open_args_of c.deref-in-Closure.result.now) (environment_of c.args.environment.now)
    (closure_applies_in c.args.store.now.now c.args.binders (environment_of c.args.environment.now) (open_term_of c.args.term.now) c.in-Root-Var-default.variable (open_spine_of c.in-Root-Var-default.spine) (open_args_of c.deref-in-Closure.result.now) (skeleton (open_type_of c.in-Closure.closure.ty.now)) (open_term_of c.in-Closure.closure.term.now) (environment_of c.in-Closure.closure.scope.now) c.in-Closure.closure.binders m s f c.requires)

pub unreachable-requires : goal.unreachable-requires
unreachable-requires c =
    let v : value_of c.args.store.now.now c.in-Root-Meta-default.meta.0 ≡ Some (open_term_of c.in-Some.value.now) = sym c.value.ensures ∙ ap (λ o. option_map (λ x. open_term_of x.now) o) c.in-Some.is in
    let d = sym c.about.ensures ∙ ap (option_map (λ p. record { context = p.0.now; of_type = open_type_of p.1.now })) c.in-None-about.is in
    let q : types_of c.args.store.now.now c.in-Root-Meta-default.meta.0 ≡ None = ap (option_map (λ d. d.of_type)) d in
    value_is_declared c.args.store.now.now c.args.binders (environment_of c.args.environment.now) (open_term_of c.args.term.now) c.in-Root-Meta-default.meta.0 (open_term_of c.in-Some.value.now) v c.requires q

pub enter-requires-in-Some-about : goal.enter-requires-in-Some-about
enter-requires-in-Some-about c =
    let m : open_term_of c.args.term.now ≡ root (metavariable c.in-Root-Meta-default.meta.0) (open_spine_of c.in-Root-Meta-default.spine) = grind (arith, environments) in
    let s : open_spine_of c.in-Root-Meta-default.spine ≡ open_args_of c.deref-in-Some-about.result.now = grind (arith, environments) in
    let v : value_of c.args.store.now.now c.in-Root-Meta-default.meta.0 ≡ Some (open_term_of c.in-Some.value.now) = sym c.value.ensures ∙ ap (λ o. option_map (λ x. open_term_of x.now) o) c.in-Some.is in
    let d : slice_get c.args.store.now.now.declared c.in-Root-Meta-default.meta.0 ≡ Some (record { context = c.in-Some-about.field-0-0.now; of_type = open_type_of c.in-Some-about.ty.now }) = sym c.about.ensures ∙ ap (option_map (λ p. record { context = p.0.now; of_type = open_type_of p.1.now })) c.in-Some-about.is in
    let y : types_of c.args.store.now.now c.in-Root-Meta-default.meta.0 ≡ Some (open_type_of c.in-Some-about.ty.now) = ap (option_map (λ d. d.of_type)) d in
    takes_all_in_frame c.requires.frame (skeleton (open_type_of c.in-Some-about.ty.now)) (open_term_of c.in-Some.value.now) (move_by c.args.binders outside) (open_args_of c.deref-in-Some-about.result.now) (environment_of c.args.environment.now)
    (meta_applies_in c.args.store.now.now c.args.binders (environment_of c.args.environment.now) outside (open_term_of c.args.term.now) c.in-Root-Meta-default.meta.0 (open_spine_of c.in-Root-Meta-default.spine) (open_args_of c.deref-in-Some-about.result.now) (open_type_of c.in-Some-about.ty.now) (open_term_of c.in-Some.value.now) m s refl v y c.requires)

pub returns-in-Root-Const-default-clause-value : goal.returns-in-Root-Const-default-clause-value
returns-in-Root-Const-default-clause-value c =
    let r = constant_value c.args.store.now.now c.args.binders (environment_of c.args.environment.now) c.in-Root-Const-default.constant.0 (open_spine_of c.in-Root-Const-default.spine) in
    grind (arith, environments, r)

pub returns-in-Variable-clause-value : goal.returns-in-Variable-clause-value
returns-in-Variable-clause-value c =
    let m : open_term_of c.args.term.now ≡ root (variable c.in-Root-Var-default.variable) (open_spine_of c.in-Root-Var-default.spine) = grind (arith, environments) in
    let f : found (environment_of c.args.environment.now) c.in-Root-Var-default.variable ≡ stays c.in-Variable.renamed = grind (arith, environments) in
    let r = stays_value_by c.args.store.now.now c.args.binders (environment_of c.args.environment.now) (open_term_of c.args.term.now) c.in-Root-Var-default.variable c.in-Variable.renamed (open_spine_of c.in-Root-Var-default.spine) m f in
    grind (arith, environments, r)

pub returns-in_ok-enter-in-Closure-clause-value : goal.returns-in_ok-enter-in-Closure-clause-value
returns-in_ok-enter-in-Closure-clause-value c =
    let m : open_term_of c.args.term.now ≡ root (variable c.in-Root-Var-default.variable) (open_spine_of c.in-Root-Var-default.spine) = grind (arith, environments) in
    let s : open_spine_of c.in-Root-Var-default.spine ≡ open_args_of c.deref-in-Closure.result.now = grind (arith, environments) in
    let f : found (environment_of c.args.environment.now) c.in-Root-Var-default.variable ≡ closure (skeleton (open_type_of c.in-Closure.closure.ty.now)) (open_term_of c.in-Closure.closure.term.now) (environment_of c.in-Closure.closure.scope.now) c.in-Closure.closure.binders = grind (arith, environments) in
    closure_value_by c.args.store.now.now c.args.binders (environment_of c.args.environment.now) (open_term_of c.args.term.now) c.in-Root-Var-default.variable (open_spine_of c.in-Root-Var-default.spine) (open_args_of c.deref-in-Closure.result.now) (skeleton (open_type_of c.in-Closure.closure.ty.now)) (open_term_of c.in-Closure.closure.term.now) (environment_of c.in-Closure.closure.scope.now) c.in-Closure.closure.binders (open_term_of c.in_ok-enter-in-Closure.field-0.body.now) (environment_of c.in_ok-enter-in-Closure.field-0.environment.now) m s f c.requires c.in_ok-enter-in-Closure.ensures

pub returns-in_ok-enter-in-Closure-clause-fits : goal.returns-in_ok-enter-in-Closure-clause-fits
returns-in_ok-enter-in-Closure-clause-fits c =
    let m : open_term_of c.args.term.now ≡ root (variable c.in-Root-Var-default.variable) (open_spine_of c.in-Root-Var-default.spine) = grind (arith, environments) in
    let s : open_spine_of c.in-Root-Var-default.spine ≡ open_args_of c.deref-in-Closure.result.now = grind (arith, environments) in
    let f : found (environment_of c.args.environment.now) c.in-Root-Var-default.variable ≡ closure (skeleton (open_type_of c.in-Closure.closure.ty.now)) (open_term_of c.in-Closure.closure.term.now) (environment_of c.in-Closure.closure.scope.now) c.in-Closure.closure.binders = grind (arith, environments) in
    closure_walk_by c.args.store.now.now c.args.binders (environment_of c.args.environment.now) (open_term_of c.args.term.now) c.in-Root-Var-default.variable (open_spine_of c.in-Root-Var-default.spine) (open_args_of c.deref-in-Closure.result.now) (skeleton (open_type_of c.in-Closure.closure.ty.now)) (open_term_of c.in-Closure.closure.term.now) (environment_of c.in-Closure.closure.scope.now) c.in-Closure.closure.binders (open_term_of c.in_ok-enter-in-Closure.field-0.body.now) (environment_of c.in_ok-enter-in-Closure.field-0.environment.now) m s f c.requires c.in_ok-enter-in-Closure.ensures

pub returns-in-None-clause-value : goal.returns-in-None-clause-value
returns-in-None-clause-value c =
    let m : open_term_of c.args.term.now ≡ root (metavariable c.in-Root-Meta-default.meta.0) (open_spine_of c.in-Root-Meta-default.spine) = grind (arith, environments) in
    let v : value_of c.args.store.now.now c.in-Root-Meta-default.meta.0 ≡ None = sym c.value.ensures ∙ ap (λ o. option_map (λ x. open_term_of x.now) o) c.in-None.is in
    let r = unbound_value_by c.args.store.now.now c.args.binders (environment_of c.args.environment.now) (open_term_of c.args.term.now) c.in-Root-Meta-default.meta.0 (open_spine_of c.in-Root-Meta-default.spine) m v in
    grind (arith, environments, r)

pub returns-in_ok-enter-in-Some-about-clause-value : goal.returns-in_ok-enter-in-Some-about-clause-value
returns-in_ok-enter-in-Some-about-clause-value c =
    let m : open_term_of c.args.term.now ≡ root (metavariable c.in-Root-Meta-default.meta.0) (open_spine_of c.in-Root-Meta-default.spine) = grind (arith, environments) in
    let s : open_spine_of c.in-Root-Meta-default.spine ≡ open_args_of c.deref-in-Some-about.result.now = grind (arith, environments) in
    let o : environment_of c.in_ok-scope-in-Some-about.scope.now ≡ outside = grind (arith, environments) in
    let v : value_of c.args.store.now.now c.in-Root-Meta-default.meta.0 ≡ Some (open_term_of c.in-Some.value.now) = sym c.value.ensures ∙ ap (λ o. option_map (λ x. open_term_of x.now) o) c.in-Some.is in
    let d : slice_get c.args.store.now.now.declared c.in-Root-Meta-default.meta.0 ≡ Some (record { context = c.in-Some-about.field-0-0.now; of_type = open_type_of c.in-Some-about.ty.now }) = sym c.about.ensures ∙ ap (option_map (λ p. record { context = p.0.now; of_type = open_type_of p.1.now })) c.in-Some-about.is in
    let y : types_of c.args.store.now.now c.in-Root-Meta-default.meta.0 ≡ Some (open_type_of c.in-Some-about.ty.now) = ap (option_map (λ d. d.of_type)) d in
    meta_value_by c.args.store.now.now c.args.binders (environment_of c.args.environment.now) (environment_of c.in_ok-scope-in-Some-about.scope.now) (open_term_of c.args.term.now) c.in-Root-Meta-default.meta.0 (open_spine_of c.in-Root-Meta-default.spine) (open_args_of c.deref-in-Some-about.result.now) (open_type_of c.in-Some-about.ty.now) (open_term_of c.in-Some.value.now) (open_term_of c.in_ok-enter-in-Some-about.field-0.body.now) (environment_of c.in_ok-enter-in-Some-about.field-0.environment.now) m s o v y c.requires c.in_ok-enter-in-Some-about.ensures

pub returns-in_ok-enter-in-Some-about-clause-fits : goal.returns-in_ok-enter-in-Some-about-clause-fits
returns-in_ok-enter-in-Some-about-clause-fits c =
    let m : open_term_of c.args.term.now ≡ root (metavariable c.in-Root-Meta-default.meta.0) (open_spine_of c.in-Root-Meta-default.spine) = grind (arith, environments) in
    let s : open_spine_of c.in-Root-Meta-default.spine ≡ open_args_of c.deref-in-Some-about.result.now = grind (arith, environments) in
    let o : environment_of c.in_ok-scope-in-Some-about.scope.now ≡ outside = grind (arith, environments) in
    let v : value_of c.args.store.now.now c.in-Root-Meta-default.meta.0 ≡ Some (open_term_of c.in-Some.value.now) = sym c.value.ensures ∙ ap (λ o. option_map (λ x. open_term_of x.now) o) c.in-Some.is in
    let d : slice_get c.args.store.now.now.declared c.in-Root-Meta-default.meta.0 ≡ Some (record { context = c.in-Some-about.field-0-0.now; of_type = open_type_of c.in-Some-about.ty.now }) = sym c.about.ensures ∙ ap (option_map (λ p. record { context = p.0.now; of_type = open_type_of p.1.now })) c.in-Some-about.is in
    let y : types_of c.args.store.now.now c.in-Root-Meta-default.meta.0 ≡ Some (open_type_of c.in-Some-about.ty.now) = ap (option_map (λ d. d.of_type)) d in
    meta_walk_by c.args.store.now.now c.args.binders (environment_of c.args.environment.now) (environment_of c.in_ok-scope-in-Some-about.scope.now) (open_term_of c.args.term.now) c.in-Root-Meta-default.meta.0 (open_spine_of c.in-Root-Meta-default.spine) (open_args_of c.deref-in-Some-about.result.now) (open_type_of c.in-Some-about.ty.now) (open_term_of c.in-Some.value.now) (open_term_of c.in_ok-enter-in-Some-about.field-0.body.now) (environment_of c.in_ok-enter-in-Some-about.field-0.environment.now) m s o v y c.requires c.in_ok-enter-in-Some-about.ensures
