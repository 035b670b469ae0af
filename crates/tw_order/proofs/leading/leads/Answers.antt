use Rattle.std.proofs.Common.{◌∙◌, ◌++◌, [], ◌∷◌, ap, subst}
use Rattle.std.specs.Prelude.{Decides}
use Rattle.lf.specs.Subordination.{Member}
use Rattle.tw_order.specs.Leading.{IsDue}
use Rattle.tw_order.specs.declared.leading.Edge.{Edge}
use Rattle.tw_order.proofs.Reaching.{begun, done, gone_on_at}
use Rattle.tw_order.proofs.leading.leads.Goals as goal

pub loop-place-init : goal.loop-place-init
loop-place-init c = begun c.args.edges.now c.args.from c.push.new.self.items c.in_ok-left.left.items (c.in_ok-push.ensures.items ∙ ap (λ xs. xs ++ c.args.from ∷ []) c.new-reached.ensures.items) c.in_ok-left.ensures.items

pub loop-place-preserved : goal.loop-place-preserved
loop-place-preserved c = gone_on_at c.args.edges.now c.args.from c.loop-place.reached.items c.push-in-Some.new.self.items c.loop-place.left.items c.remove-edge.new.self.items c.deref.result.now c.deref-in-loop-place.result.now c.in-Some.place c.remove-edge.result c.deref.ensures.value c.deref-in-loop-place.ensures.value c.in-Some.ensures c.remove-edge.ensures.value c.remove-edge.ensures.items c.in_ok-push-2.ensures.items c.loop-place.invariant

pub returns : goal.returns
returns c =
    let n = subst (λ xs. (e : Edge) → IsDue xs c.deref-in-loop-place.result.now e → ⊥) c.deref.ensures.value c.in_default.ensures in
    let m = subst (λ xs. (e : Edge) → IsDue c.loop-place.left.items xs e → ⊥) c.deref-in-loop-place.ensures.value n in
    done c.args.edges.now c.args.from c.loop-place.reached.items c.loop-place.left.items c.args.to c.has_number.result c.loop-place.invariant m (subst (λ xs. Decides c.has_number.result (Member c.args.to xs)) c.deref-2.ensures.value c.has_number.ensures)
