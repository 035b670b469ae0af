use Rattle.std.proofs.Common.{◌≡◌, ◌+◌, arith, length, refl, subst, sym}
use Rattle.lf.specs.Syntax.{metavariable, root, variable}
use Rattle.lf_search.specs.Heads.{IsArgument}
use Rattle.tw_open.proofs.Arguments.{surely_below}
use Rattle.tw_open.proofs.Steps.{steps}
use Rattle.tw_putting.specs.Stores.{bindings_of}
use Rattle.tw_terms.specs.OpenView.{open_args_of, open_spine_of, open_term_of}
use Rattle.tw_terms.proofs.OpenViews.{open_spine_of-args}
use Rattle.tw_search.proofs.ClashingHeads.{value_is_binding}
use Rattle.tw_search.proofs.RigidHeads.{argument_at, argument_of_list, value_own, variable_at}
use Rattle.tw_search.proofs.rigid.+value_place.Goals as goal

pub returns-in-Root-Var-default : goal.returns-in-Root-Var-default
returns-in-Root-Var-default t c =
    let s = c.args.store.now.now in
    let V = open_term_of c.in_ok-value.field-0.now in
    let N = open_term_of c.in_ok-inside.inside.now in
    let v = c.in-Root-Var-default.variable in
    let S = open_spine_of c.in-Root-Var-default.field-1 in
    let e : N ≡ root (variable v) S = grind (arith, steps) in
    let q : v ≡ v + 0 = omega arith in
    value_own (bindings_of s) c.args.meta.0 c.in_ok-inside.lambdas v V N c.own_number.result (value_is_binding s c.args.meta.0 V c.requires c.in_ok-value.ensures) c.in_ok-inside.ensures (variable_at (bindings_of s) N S v 0 v (variable v) e refl q) c.own_number.ensures

pub returns-in_ok-written_variable-in-Root-Meta-default : goal.returns-in_ok-written_variable-in-Root-Meta-default
returns-in_ok-written_variable-in-Root-Meta-default t c =
    let s = c.args.store.now.now in
    let V = open_term_of c.in_ok-value.field-0.now in
    let N = open_term_of c.in_ok-inside.inside.now in
    let P = c.in_ok-get-in-Root-Meta-default.field-0.now in
    let place = c.in_ok-place-in-Root-Meta-default.place in
    let ts = c.in-Root-Meta-default.spine.args.items in
    let S = open_spine_of c.in-Root-Meta-default.spine in
    let j = c.in_ok-written_variable-in-Root-Meta-default.field-0 in
    let e : N ≡ root (metavariable c.in-Root-Meta-default.next.0) S = grind (arith, steps) in
    let found = argument_of_list c.deref.result.now place P (surely_below place (length c.deref.result.now) c.in_ok-get-in-Root-Meta-default.ensures.lookup.0) c.in_ok-get-in-Root-Meta-default.ensures.lookup.1 in
    let at : IsArgument (open_term_of P) place S = subst (IsArgument (open_term_of P) place) (sym (open_spine_of-args c.in-Root-Meta-default.spine)) (subst (λ l. IsArgument (open_term_of P) place (open_args_of l)) c.deref.ensures.value found) in
    value_own (bindings_of s) c.args.meta.0 c.in_ok-inside.lambdas j V N c.own_number-in-Root-Meta-default.result (value_is_binding s c.args.meta.0 V c.requires c.in_ok-value.ensures) c.in_ok-inside.ensures
    (argument_at (bindings_of s) N (open_term_of P) S c.in-Root-Meta-default.next.0 place 0 (variable j) e c.in_ok-place-in-Root-Meta-default.ensures at (c.in_ok-written_variable-in-Root-Meta-default.ensures (bindings_of s))) c.own_number-in-Root-Meta-default.ensures
