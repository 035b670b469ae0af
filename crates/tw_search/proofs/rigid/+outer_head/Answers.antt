use Rattle.std.proofs.Common.{◌≡◌, ◌+◌, arith, length, subst, sym}
use Rattle.lf.specs.Syntax.{constant, lambda, metavariable, root, variable}
use Rattle.lf_search.specs.Heads.{IsArgument}
use Rattle.tw_open.proofs.Arguments.{surely_below}
use Rattle.tw_open.proofs.Steps.{steps}
use Rattle.tw_putting.specs.Stores.{bindings_of}
use Rattle.tw_terms.specs.OpenView.{open_args_of, open_spine_of, open_term_of}
use Rattle.tw_terms.specs.View.{head_of}
use Rattle.tw_terms.specs.declared.canonical.Head.TheVariants.{Const, Var}
use Rattle.tw_terms.proofs.OpenViews.{open_spine_of-args}
use Rattle.tw_terms.proofs.Views.{head_of-Const, head_of-Var}
use Rattle.tw_search.proofs.RigidHeads.{argument_head, argument_of_list, constant_at, lambda_head, value_at, variable_at}
use Rattle.tw_search.proofs.rigid.+outer_head.Goals as goal

pub returns-in_ok-checked_add-in-Lam : goal.returns-in_ok-checked_add-in-Lam
returns-in_ok-checked_add-in-Lam t c =
    let e : open_term_of c.args.term.now ≡ lambda (open_term_of c.deref.result.now) = grind (arith, steps) in
    let q : c.in_ok-checked_add-in-Lam.field-0 ≡ c.args.binders + 1 = grind arith in
    lambda_head (bindings_of c.args.store.now.now) (open_term_of c.args.term.now) (open_term_of c.deref.result.now) c.args.binders c.in_ok-checked_add-in-Lam.field-0 c.outer_head.result e q c.outer_head.ensures

pub returns-in-Root-Const-default : goal.returns-in-Root-Const-default
returns-in-Root-Const-default t c =
    let S = open_spine_of c.in-Root-Const-default.field-1 in
    let x = c.in-Root-Const-default.constant in
    let e : open_term_of c.args.term.now ≡ root (constant x.0) S = grind (arith, steps) in
    constant_at (bindings_of c.args.store.now.now) (open_term_of c.args.term.now) S x.0 c.args.binders (head_of (Const x)) e (head_of-Const x)

pub returns-in_ok-checked_sub-in-Root-Var-default : goal.returns-in_ok-checked_sub-in-Root-Var-default
returns-in_ok-checked_sub-in-Root-Var-default t c =
    let S = open_spine_of c.in-Root-Var-default.field-1 in
    let v = c.in-Root-Var-default.variable in
    let i = c.in_ok-checked_sub-in-Root-Var-default.field-0 in
    let e : open_term_of c.args.term.now ≡ root (variable v) S = grind (arith, steps) in
    let q : v ≡ i + c.args.binders = grind arith in
    variable_at (bindings_of c.args.store.now.now) (open_term_of c.args.term.now) S v c.args.binders i (head_of (Var i)) e (head_of-Var i) q

pub returns-in-Some : goal.returns-in-Some
returns-in-Some t c =
    let S = open_spine_of c.in-Root-Meta-default.spine in
    let x = c.in-Some.constant in
    let e : open_term_of c.args.term.now ≡ root (metavariable c.in-Root-Meta-default.meta.0) S = grind (arith, steps) in
    value_at (bindings_of c.args.store.now.now) (open_term_of c.args.term.now) S c.in-Root-Meta-default.meta.0 x.0 c.args.binders (head_of (Const x)) e (head_of-Const x) (c.in-Some.ensures c.args.binders)

pub returns-in_ok-get-in-None : goal.returns-in_ok-get-in-None
returns-in_ok-get-in-None t c =
    let P = c.in_ok-get-in-None.field-0.now in
    let place = c.in_ok-place-in-None.place in
    let S = open_spine_of c.in-Root-Meta-default.spine in
    let e : open_term_of c.args.term.now ≡ root (metavariable c.in-Root-Meta-default.meta.0) S = grind (arith, steps) in
    let found = argument_of_list c.deref-in-None.result.now place P (surely_below place (length c.deref-in-None.result.now) c.in_ok-get-in-None.ensures.lookup.0) c.in_ok-get-in-None.ensures.lookup.1 in
    let at : IsArgument (open_term_of P) place S = subst (IsArgument (open_term_of P) place) (sym (open_spine_of-args c.in-Root-Meta-default.spine)) (subst (λ l. IsArgument (open_term_of P) place (open_args_of l)) c.deref-in-None.ensures.value found) in
    argument_head (bindings_of c.args.store.now.now) (open_term_of c.args.term.now) (open_term_of P) S c.in-Root-Meta-default.meta.0 place c.args.binders c.outer_head-in-None.result e c.in_ok-place-in-None.ensures at c.outer_head-in-None.ensures
