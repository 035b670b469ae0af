use Rattle.std.proofs.Common.{◌≡◌, ◌-◌, ◌+◌, ◌∷◌, suc, Some, drop, ap, sym, ◌∙◌, subst, arith, rules}
use Rattle.std.specs.Prelude.{slice_get}
use Rattle.lf.specs.Entries.{signature_of}
use Rattle.tw_putting.specs.Stores.{types_of}
use Rattle.tw_terms.specs.OpenView.{open_type_of}
use Rattle.tests_ready.specs.Checked.{IsTypeTyped}
use Rattle.tests_ready.proofs.TypedTerms.{at_true, context_next, context_stands, drop_at}
use Rattle.tests_ready.proofs.types.is_context.Goals as goal

pub is_type-requires-clause-stands : goal.is_type-requires-clause-stands
is_type-requires-clause-stands c = context_stands (signature_of c.args.signature.now) (types_of c.args.store.now.now) c.args.limit c.loop-place.outer c.requires.below c.loop-place.invariant.typed

pub loop-place-preserved : goal.loop-place-preserved
loop-place-preserved c =
    let Σ = signature_of c.args.signature.now in
    let Ψ = types_of c.args.store.now.now in
    let D = c.args.context.now in
    let n = c.len-count.result - (c.loop-place.place + 1) in
    let m = c.len-count.result - 1 - c.loop-place.place in
    let A = open_type_of c.unwrap-ty.result.now in
    let q : m ≡ n = omega arith in
    let g' : slice_get D m ≡ Some A = search rules in
    let g : slice_get D n ≡ Some A = subst (λ i. slice_get D i ≡ Some A) q g' in
    let i : suc n ≡ c.len-count.result - c.loop-place.place = omega (arith, c.loop-place-test.true, c.loop-place.invariant.all) in
    let t : IsTypeTyped Σ Ψ c.args.limit c.loop-place.outer A = at_true c.in_ok-is_type.field-0 (IsTypeTyped Σ Ψ c.args.limit c.loop-place.outer A) c.if-not-branch.false c.in_ok-is_type.ensures in
    let B = open_type_of c.in_ok-copy.field-0 in
    let b : B ≡ A = c.in_ok-copy.ensures in
    record {
      all = c.loop-place.invariant.all;
      outer = c.in_ok-push.ensures.ok ∙ ap (λ X. X ∷ c.loop-place.outer) b ∙ ap (λ E. A ∷ E) (c.loop-place.invariant.outer ∙ ap (λ j. drop j D) (sym i)) ∙ sym (drop_at D n A g);
      typed = context_next Σ Ψ c.args.limit c.loop-place.outer c.push.new.self A B c.in_ok-push.ensures.ok b c.loop-place.invariant.typed t;
    }
