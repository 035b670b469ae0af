use Rattle.std.proofs.Common.{◌+◌, ◌∙◌, ap, ap₂, arith, drop, subst, sym, true≢false}
use Rattle.std.proofs.Math.ListN.{drop_of_length-le}
use Rattle.std.specs.Prelude.{option_map}
use Rattle.lf.specs.Entries.{signature_of}
use Rattle.lf.specs.Syntax.{app, lambda, nil, pi, rename}
use Rattle.lf.specs.Variables.{at_variable}
use Rattle.lf_checks.specs.Order.{size}
use Rattle.lf_checks.proofs.Sizes.{size_renamed}
use Rattle.tw_kernel.proofs.Spines.{args_at}
use Rattle.tw_terms.specs.View.{args_of, head_of, spine_of, term_of, type_of}
use Rattle.tw_terms.proofs.Views.{spine_of-args, term_of-Lam, term_of-Root, type_of-Pi}
use Rattle.tw_order.specs.Scopes.{fixed_in}
use Rattle.tw_order.specs.Taking.{IsFound, IsPassable, SpineStands, TermStands}
use Rattle.tw_order.proofs.Comparing.{argument_size, either_equal, either_smaller, head_found, head_missing, lambda_found, lambda_none, left_first, left_found, left_next, left_takes, none_left}
use Rattle.tw_order.proofs.Deciding.{on_value}
use Rattle.tw_order.proofs.Standing.{body_stands, first_stands, root_stands, spine_stands}
use Rattle.tw_order.proofs.smaller.+smaller.Goals as goal

pub in_argument-smaller_or_equal-requires : goal.in_argument-smaller_or_equal-requires
in_argument-smaller_or_equal-requires t c =
    let Σ = signature_of c.args.sig.now in
    let C = c.args.scope.now.context.now in
    let N = term_of c.args.arg.now in
    let e = ap type_of c.in-Pi.is ∙ type_of-Pi c.in-Pi.domain c.in-Pi.field-1 ∙ ap (λ x. pi (type_of x) (type_of c.in-Pi.field-1.value)) (sym c.deref.ensures) in
    (omega arith, first_stands Σ C N nil (type_of c.deref.result.now) (type_of c.in-Pi.field-1.value) (subst (SpineStands Σ C (app N nil)) e c.requires))

pub in_arguments-in_argument-requires : goal.in_arguments-in_argument-requires
in_arguments-in_argument-requires t c =
    let items = c.deref-arg-items.result.now in
    let k = c.loop-arg.arg-index in
    let x = c.arg-item.result in
    let z = argument_size c.args.spine.now.args.items items k x (spine_of c.args.spine.now) c.deref-arg-items.ensures.value (spine_of-args c.args.spine.now) (omega arith) c.arg-item.is in
    (omega (arith, z), left_first (signature_of c.args.sig.now) c.args.scope.now (term_of c.args.term.now) (spine_of c.args.spine.now) (type_of c.args.function) (args_of (drop k items)) (type_of c.loop-arg.ty) (term_of x) (args_of (drop (k + 1) items)) (args_at items k x (omega arith) c.arg-item.is) c.loop-arg.invariant)

pub in_arguments-past_argument-requires : goal.in_arguments-past_argument-requires
in_arguments-past_argument-requires t c =
    let items = c.deref-arg-items.result.now in
    let k = c.loop-arg.arg-index in
    let x = c.arg-item.result in
    left_takes (signature_of c.args.sig.now) c.args.scope.now (term_of c.args.term.now) (spine_of c.args.spine.now) (type_of c.args.function) (args_of (drop k items)) (type_of c.loop-arg.ty) (term_of x) (args_of (drop (k + 1) items)) (args_at items k x (omega arith) c.arg-item.is) c.loop-arg.invariant

pub in_arguments-returns-then-branch : goal.in_arguments-returns-then-branch
in_arguments-returns-then-branch t c =
    let items = c.deref-arg-items.result.now in
    let k = c.loop-arg.arg-index in
    let x = c.arg-item.result in
    left_found (signature_of c.args.sig.now) c.args.scope.now (term_of c.args.term.now) (spine_of c.args.spine.now) (type_of c.args.function) (args_of (drop k items)) (type_of c.loop-arg.ty) (term_of x) (args_of (drop (k + 1) items)) (args_at items k x (omega arith) c.arg-item.is) c.in_ok-in_argument.field-0 c.if-branch.true c.in_ok-in_argument.ensures c.loop-arg.invariant

pub in_arguments-loop-arg-preserved : goal.in_arguments-loop-arg-preserved
in_arguments-loop-arg-preserved t c =
    let items = c.deref-arg-items.result.now in
    let k = c.loop-arg.arg-index in
    let x = c.arg-item.result in
    left_next (signature_of c.args.sig.now) c.args.scope.now (term_of c.args.term.now) (spine_of c.args.spine.now) (type_of c.args.function) (args_of (drop k items)) (type_of c.loop-arg.ty) (term_of x) (args_of (drop (k + 1) items)) (args_at items k x (omega arith) c.arg-item.is) c.in_ok-in_argument.field-0 (type_of c.in_ok-ty.ty) c.if-branch.false c.in_ok-in_argument.ensures c.in_ok-ty.ensures c.loop-arg.invariant

pub in_arguments-returns : goal.in_arguments-returns
in_arguments-returns t c =
    let items = c.deref-arg-items.result.now in
    none_left (signature_of c.args.sig.now) c.args.scope.now (term_of c.args.term.now) (spine_of c.args.spine.now) (type_of c.args.function) (args_of (drop c.loop-arg.arg-index items)) (type_of c.loop-arg.ty) (ap args_of (drop_of_length-le items (omega arith))) c.loop-arg.invariant

pub in_body-smaller_or_equal-requires : goal.in_body-smaller_or_equal-requires
in_body-smaller_or_equal-requires t c =
    let Σ = signature_of c.args.sig.now in
    let C = c.args.scope.now.context.now in
    let N = term_of c.args.body.now in
    let B = type_of c.args.range.now in
    let ρ = at_variable c.args.variable in
    let z = ap size c.in_ok-body.ensures ∙ size_renamed ρ N in
    let x = body_stands Σ C N (type_of c.args.domain.now) B c.args.variable c.requires (c.in_ok-has_type.ensures.0 c.if-not-branch.false) in
    (omega (arith, z), subst (λ X. TermStands Σ C X (type_of c.in_ok-range.range)) (sym c.in_ok-body.ensures) (subst (TermStands Σ C (rename ρ N)) (sym c.in_ok-range.ensures) x))

pub smaller-under_head-requires : goal.smaller-under_head-requires
smaller-under_head-requires t c =
    let Σ = signature_of c.args.sig.now in
    let C = c.args.scope.now.context.now in
    let A = type_of c.args.ty.now in
    let e = ap term_of c.in-Root.is ∙ term_of-Root c.in-Root.head c.in-Root.spine in
    let z = ap size e in
    (omega (arith, z), root_stands Σ C (head_of c.in-Root.head) (spine_of c.in-Root.spine) A (subst (λ X. TermStands Σ C X A) e c.requires))

pub smaller-under_lambda-requires : goal.smaller-under_lambda-requires
smaller-under_lambda-requires t c =
    let Σ = signature_of c.args.sig.now in
    let C = c.args.scope.now.context.now in
    let m = ap term_of c.in-Lam.is ∙ term_of-Lam c.in-Lam.body ∙ ap (λ x. lambda (term_of x)) (sym c.deref.ensures) in
    let y = ap type_of c.in-Pi.is ∙ type_of-Pi c.in-Pi.domain c.in-Pi.range ∙ ap₂ (λ x y. pi (type_of x) (type_of y)) (sym c.deref-in-Pi.ensures) (sym c.deref-in-Pi-2.ensures) in
    let z = ap size m in
    (omega (arith, z), subst (λ X. TermStands Σ C X (pi (type_of c.deref-in-Pi.result.now) (type_of c.deref-in-Pi-2.result.now))) m (subst (TermStands Σ C (term_of c.args.than.now)) y c.requires))

pub smaller_or_equal-returns-then-same : goal.smaller_or_equal-returns-then-same
smaller_or_equal-returns-then-same t c = either_equal (signature_of c.args.sig.now) c.args.scope.now (term_of c.args.term.now) (term_of c.args.than.now) (type_of c.args.ty.now) (c.same.ensures.0 c.if-same.true)

pub smaller_or_equal-smaller-requires : goal.smaller_or_equal-smaller-requires
smaller_or_equal-smaller-requires t c = (omega arith, c.requires)

pub smaller_or_equal-returns : goal.smaller_or_equal-returns
smaller_or_equal-returns t c = on_value c.smaller.result _ _ (λ b d. either_smaller (signature_of c.args.sig.now) c.args.scope.now (term_of c.args.term.now) b (term_of c.args.than.now) (type_of c.args.ty.now) (λ e. true≢false (sym (c.same.ensures.1 e) ∙ c.if-same.false)) d) c.smaller.ensures

pub under_head-in_arguments-requires : goal.under_head-in_arguments-requires
under_head-in_arguments-requires t c =
    let Σ = signature_of c.args.sig.now in
    let s = c.args.scope.now in
    let h = head_of c.args.head in
    let p = subst (λ o. IsFound (IsPassable Σ s.context.now (fixed_in s) h) (option_map type_of o)) c.in-Some.is c.in_ok-function.ensures in
    (omega arith, spine_stands Σ s.context.now (fixed_in s) h (spine_of c.args.spine.now) (type_of c.in-Some.function) p c.requires)

pub under_head-returns-in-Some : goal.under_head-returns-in-Some
under_head-returns-in-Some t c =
    let Σ = signature_of c.args.sig.now in
    let s = c.args.scope.now in
    let h = head_of c.args.head in
    let p = subst (λ o. IsFound (IsPassable Σ s.context.now (fixed_in s) h) (option_map type_of o)) c.in-Some.is c.in_ok-function.ensures in
    on_value c.in_arguments.result _ _ (λ b d. head_found Σ s (term_of c.args.term.now) b h (spine_of c.args.spine.now) (type_of c.in-Some.function) p d) c.in_arguments.ensures

pub under_head-returns-in-None : goal.under_head-returns-in-None
under_head-returns-in-None t c =
    let Σ = signature_of c.args.sig.now in
    let s = c.args.scope.now in
    let h = head_of c.args.head in
    head_missing Σ s (term_of c.args.term.now) h (spine_of c.args.spine.now) (subst (λ o. IsFound (IsPassable Σ s.context.now (fixed_in s) h) (option_map type_of o)) c.in-None.is c.in_ok-function.ensures)

pub under_lambda-in_body-requires : goal.under_lambda-in_body-requires
under_lambda-in_body-requires t c = (omega arith, c.requires)

pub under_lambda-returns-then-branch : goal.under_lambda-returns-then-branch
under_lambda-returns-then-branch t c = lambda_found (signature_of c.args.sig.now) c.args.scope.now (term_of c.args.term.now) (term_of c.args.body.now) (type_of c.args.domain.now) (type_of c.args.range.now) c.loop-variable.variable (omega arith) (c.in_ok-in_body.ensures.0 c.if-branch.true)

pub under_lambda-returns : goal.under_lambda-returns
under_lambda-returns t c = lambda_none (signature_of c.args.sig.now) c.args.scope.now (term_of c.args.term.now) (term_of c.args.body.now) (type_of c.args.domain.now) (type_of c.args.range.now) (λ y l. c.loop-variable.invariant y (omega (arith, l)))
