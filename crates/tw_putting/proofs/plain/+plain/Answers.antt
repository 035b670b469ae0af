use Rattle.std.proofs.Common.{◌≡◌, ◌+◌, false, Some, None, drop, IsTrue, refl, sym, ap, ◌∙◌, subst, arith}
use Rattle.std.specs.Option.{option_map}
use Rattle.lf.specs.Syntax.{app, constant, lambda, metavariable, nil, root, variable}
use Rattle.tw_terms.specs.OpenView.{open_term_of, open_spine_of, open_args_of}
use Rattle.tw_metas.specs.State.{value_of}
use Rattle.tw_putting.specs.Stores.{AllIn, SpineAllIn}
use Rattle.tw_putting.proofs.Environments.{environments}
use Rattle.tw_putting.proofs.PlainTerms.{argument_in, argument_not_in, at_bound, at_constant, at_lambda, at_unbound, at_variable, no_arguments_in}
use Rattle.tw_putting.proofs.plain.+plain.Goals as goal

pub is_all_in-returns-in-Lam : goal.is_all_in-returns-in-Lam
is_all_in-returns-in-Lam t c =
    let m : open_term_of c.args.term.now ≡ lambda (open_term_of c.deref.result.now) = grind (arith, environments) in
    at_lambda c.args.store.now.now (IsTrue c.is_all_in.result) (open_term_of c.args.term.now) (open_term_of c.deref.result.now) m c.is_all_in.ensures

pub is_all_in-returns-in-Some : goal.is_all_in-returns-in-Some
is_all_in-returns-in-Some t c =
    let m : open_term_of c.args.term.now ≡ root (metavariable c.in-Root-Meta-default.meta.0) (open_spine_of c.in-Root-Meta-default.spine) = grind (arith, environments) in
    let v : value_of c.args.store.now.now c.in-Root-Meta-default.meta.0 ≡ Some (open_term_of c.in-Some.field-0.now) = sym c.value.ensures ∙ ap (λ o. option_map (λ x. open_term_of x.now) o) c.in-Some.is in
    at_bound c.args.store.now.now (IsTrue false) (open_term_of c.args.term.now) c.in-Root-Meta-default.meta.0 (open_spine_of c.in-Root-Meta-default.spine) (open_term_of c.in-Some.field-0.now) m v c.requires (λ x. cc)

pub is_all_in-returns-in-None : goal.is_all_in-returns-in-None
is_all_in-returns-in-None t c =
    let m : open_term_of c.args.term.now ≡ root (metavariable c.in-Root-Meta-default.meta.0) (open_spine_of c.in-Root-Meta-default.spine) = grind (arith, environments) in
    let v : value_of c.args.store.now.now c.in-Root-Meta-default.meta.0 ≡ None = sym c.value.ensures ∙ ap (λ o. option_map (λ x. open_term_of x.now) o) c.in-None.is in
    at_unbound c.args.store.now.now (IsTrue c.is_spine_all_in.result) (open_term_of c.args.term.now) c.in-Root-Meta-default.meta.0 (open_spine_of c.in-Root-Meta-default.spine) m v c.is_spine_all_in.ensures

pub is_all_in-returns-in-Root-Const-default : goal.is_all_in-returns-in-Root-Const-default
is_all_in-returns-in-Root-Const-default t c =
    let m : open_term_of c.args.term.now ≡ root (constant c.in-Root-Const-default.field-0-0.0) (open_spine_of c.in-Root-Const-default.spine) = grind (arith, environments) in
    at_constant c.args.store.now.now (IsTrue c.is_spine_all_in-in-Root-Const-default.result) (open_term_of c.args.term.now) c.in-Root-Const-default.field-0-0.0 (open_spine_of c.in-Root-Const-default.spine) m c.is_spine_all_in-in-Root-Const-default.ensures

pub is_all_in-returns-in-Root-Var-default : goal.is_all_in-returns-in-Root-Var-default
is_all_in-returns-in-Root-Var-default t c =
    let m : open_term_of c.args.term.now ≡ root (variable c.in-Root-Var-default.field-0-0) (open_spine_of c.in-Root-Var-default.spine) = grind (arith, environments) in
    at_variable c.args.store.now.now (IsTrue c.is_spine_all_in-in-Root-Var-default.result) (open_term_of c.args.term.now) c.in-Root-Var-default.field-0-0 (open_spine_of c.in-Root-Var-default.spine) m c.is_spine_all_in-in-Root-Var-default.ensures

pub is_spine_all_in-returns-then-not-is_all_in : goal.is_spine_all_in-returns-then-not-is_all_in
is_spine_all_in-returns-then-not-is_all_in t c =
    let e : open_spine_of c.args.spine.now ≡ open_args_of c.deref-arg-items.result.now = grind (arith, environments) in
    let s : open_args_of (drop c.loop-arg.arg-index c.deref-arg-items.result.now) ≡ app (open_term_of c.arg-item.result) (open_args_of (drop (c.loop-arg.arg-index + 1) c.deref-arg-items.result.now)) = grind (arith, environments) in
    let n : AllIn c.args.store.now.now (open_term_of c.arg-item.result) → ⊥ = λ a. (let b : IsTrue c.is_all_in.result = c.is_all_in.ensures.1 a in grind (arith, environments)) in
    (λ x. cc, λ x. absurd (argument_not_in c.args.store.now.now (open_args_of (drop c.loop-arg.arg-index c.deref-arg-items.result.now)) (open_term_of c.arg-item.result) (open_args_of (drop (c.loop-arg.arg-index + 1) c.deref-arg-items.result.now)) s n (c.loop-arg.invariant.1 (subst (SpineAllIn c.args.store.now.now) e x))))

pub is_spine_all_in-loop-arg-preserved : goal.is_spine_all_in-loop-arg-preserved
is_spine_all_in-loop-arg-preserved t c =
    let s : open_args_of (drop c.loop-arg.arg-index c.deref-arg-items.result.now) ≡ app (open_term_of c.arg-item.result) (open_args_of (drop (c.loop-arg.arg-index + 1) c.deref-arg-items.result.now)) = grind (arith, environments) in
    let b : IsTrue c.is_all_in.result = grind (arith, environments) in
    let h = argument_in c.args.store.now.now (open_args_of (drop c.loop-arg.arg-index c.deref-arg-items.result.now)) (open_term_of c.arg-item.result) (open_args_of (drop (c.loop-arg.arg-index + 1) c.deref-arg-items.result.now)) s (c.is_all_in.ensures.0 b) in
    (λ x. c.loop-arg.invariant.0 (h.1 x), λ x. h.0 (c.loop-arg.invariant.1 x))

pub is_spine_all_in-returns : goal.is_spine_all_in-returns
is_spine_all_in-returns t c =
    let e : open_spine_of c.args.spine.now ≡ open_args_of c.deref-arg-items.result.now = grind (arith, environments) in
    let n : open_args_of (drop c.loop-arg.arg-index c.deref-arg-items.result.now) ≡ nil = grind (arith, environments) in
    (λ x. subst (SpineAllIn c.args.store.now.now) (sym e) (c.loop-arg.invariant.0 (subst (SpineAllIn c.args.store.now.now) (sym n) (no_arguments_in c.args.store.now.now))), λ x. refl)
