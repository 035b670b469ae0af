use Rattle.std.proofs.Common.{◌++◌, ◌∷◌, [], sym, ap, ◌∙◌, subst}
use Rattle.tw_shapes.specs.Shapes.{variable}
use Rattle.tw_shapes.specs.Equations.{IsReplaced}
use Rattle.tw_shapes.specs.View.{shape_of, store_of}
use Rattle.tw_shapes.specs.EquationView.{equations_of, between}
use Rattle.tw_shapes.proofs.Equating.{seen-push, follow-bound, follow-free, if_ok}
use Rattle.tw_shapes.proofs.equations.follow.Goals as goal

pub returns-in_ok-push-in-Some : goal.returns-in_ok-push-in-Some
returns-in_ok-push-in-Some c =
    let s = store_of c.args.bindings.now in
    let es = equations_of c.args.pending.now.items in
    let right = shape_of c.args.other in
    subst (IsReplaced s (between (variable c.args.variable.0) right) es)
    (sym (seen-push c.args.pending.now.items c.push.new.self.items (record { left = c.in_ok-left-in-Some.left; right = c.args.other }) c.in_ok-push-in-Some.ensures.items ∙ ap (λ z. es ++ between z right ∷ []) c.in_ok-left-in-Some.ensures))
    (follow-bound s c.requires.ordered c.args.variable.0 (shape_of c.in-Some.value.now) right es (sym c.in-Some.ensures) c.requires.within c.requires.all_within)

pub returns-in_ok-value-in-None : goal.returns-in_ok-value-in-None
returns-in_ok-value-in-None c =
    if_ok c.free_step.result _ _ (λ r f. follow-free (store_of c.args.bindings.now) c.args.variable.0 (shape_of c.args.other) (shape_of c.in_ok-value-in-None.value) (equations_of c.args.pending.now.items) r
    c.requires.declared (sym c.in-None.ensures) c.requires.all_within c.in_ok-value-in-None.ensures.same c.in_ok-value-in-None.ensures.free c.in_ok-value-in-None.ensures.within f) c.free_step.ensures
