use Rattle.std.proofs.Common.{◌≡◌, [], ap, sym, ◌∙◌, subst, arith, rules}
use Rattle.tw_metas.specs.State.{State, Story, with_declared}
use Rattle.tw_terms.specs.OpenView.{open_type_of}
use Rattle.tests_ready.specs.Checked.{IsNew}
use Rattle.tests_ready.proofs.NewStores.{declared_new, declared_next}
use Rattle.tests_ready.proofs.readiness.declared.Goals as goal

pub loop-ty-preserved : goal.loop-ty-preserved
loop-ty-preserved c =
    let A = open_type_of c.in_ok-copy.field-0 in
    let g : c.new.result ≡ [] = search rules in
    let is : c.fresh.new.self.now ≡ with_declared c.loop-ty.store.now [] A = ap (λ (s : Story). s.now) c.in_ok-fresh.ensures.ok ∙ ap (λ G. with_declared c.loop-ty.store.now G A) g in
    record {
      new = subst IsNew (sym is) (declared_new c.loop-ty.store.now [] A c.loop-ty.invariant.new);
      types = ap (λ (s : State). s.declared) is ∙ declared_next c.args.types.now c.loop-ty.ty-index c.ty-item.result c.loop-ty.store.now.declared A (omega arith) c.ty-item.is c.loop-ty.invariant.types c.in_ok-copy.ensures;
    }
