use Rattle.std.proofs.Common.{◌≡◌, ◌∙◌, ap, suc, sym, subst, IsTrue}
use Rattle.std.specs.Prelude.{◌↔◌}
use Rattle.lf.specs.AtOnce.{shift_by}
use Rattle.lf.specs.Entries.{signature_of}
use Rattle.lf.specs.Syntax.{rename_type}
use Rattle.lf.specs.Typing.{TypeAt}
use Rattle.lf.proofs.Weakening.{declared_is_type}
use Rattle.tw_kernel.proofs.Variables.{variable_found}
use Rattle.tw_terms.specs.View.{type_of}
use Rattle.tw_world.specs.Checks.{IsOpenUnder, PassesUnder}
use Rattle.tw_clause.proofs.Patterns.{on_value}
use Rattle.tw_world.proofs.Solving.{same_type}
use Rattle.tw_world.proofs.clause.subgoal_passes.Goals as goal

pub subgoal_is_worlded-requires-clause-subgoal : goal.subgoal_is_worlded-requires-clause-subgoal
subgoal_is_worlded-requires-clause-subgoal c =
    let G = c.args.scope.now in
    let moved : type_of c.in_ok-subgoal.subgoal ≡ rename_type (shift_by (suc c.args.index)) (type_of c.in-Some.ty.now) = c.in_ok-subgoal.ensures ∙ ap (λ n. rename_type (shift_by n) (type_of c.in-Some.ty.now)) c.in_ok-one_more.ensures in
    let at : TypeAt G c.args.index (type_of c.in_ok-subgoal.subgoal) = subst (TypeAt G c.args.index) (sym moved) (variable_found G c.args.index (type_of c.in-Some.ty.now) (sym c.in-Some.ensures)) in
    declared_is_type (signature_of c.args.check.now.sig.now) c.requires.signature G c.args.index (type_of c.in_ok-subgoal.subgoal) c.requires.scope at

pub returns-clause-decided : goal.returns-clause-decided
returns-clause-decided c =
    let G = c.args.scope.now in
    let moved : type_of c.in_ok-subgoal.subgoal ≡ rename_type (shift_by (suc c.args.index)) (type_of c.in-Some.ty.now) = c.in_ok-subgoal.ensures ∙ ap (λ n. rename_type (shift_by n) (type_of c.in-Some.ty.now)) c.in_ok-one_more.ensures in
    let at : TypeAt G c.args.index (type_of c.in_ok-subgoal.subgoal) = subst (TypeAt G c.args.index) (sym moved) (variable_found G c.args.index (type_of c.in-Some.ty.now) (sym c.in-Some.ensures)) in
    on_value c.subgoal_is_worlded.result _ _ (λ b d A t. subst (λ X. IsTrue b ↔ PassesUnder c.args.check.now G X) (same_type G c.args.index (type_of c.in_ok-subgoal.subgoal) A at t) d) c.subgoal_is_worlded.ensures.decided

pub returns-clause-too_deep : goal.returns-clause-too_deep
returns-clause-too_deep c = λ h A t.
    let G = c.args.scope.now in
    let moved : type_of c.in_ok-subgoal.subgoal ≡ rename_type (shift_by (suc c.args.index)) (type_of c.in-Some.ty.now) = c.in_ok-subgoal.ensures ∙ ap (λ n. rename_type (shift_by n) (type_of c.in-Some.ty.now)) c.in_ok-one_more.ensures in
    let at : TypeAt G c.args.index (type_of c.in_ok-subgoal.subgoal) = subst (TypeAt G c.args.index) (sym moved) (variable_found G c.args.index (type_of c.in-Some.ty.now) (sym c.in-Some.ensures)) in
    subst (IsOpenUnder c.args.check.now G) (same_type G c.args.index (type_of c.in_ok-subgoal.subgoal) A at t) (c.subgoal_is_worlded.ensures.too_deep h)
