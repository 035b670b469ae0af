use Rattle.std.proofs.Common.{◌≡◌, ◌∷◌, ◌++◌, [], Err, get_or, refl, sym, ap, ◌∙◌, subst, rules}
use Rattle.tw_terms.specs.View.{type_of}
use Rattle.tw_abstract.specs.Quantifiers.{IsContextOf, no_quantifiers}
use Rattle.tw_abstract.proofs.Loops.{next_quantifier, one_number_more, type_blamed}
use Rattle.tw_abstract.proofs.typing.context_of.Goals as goal

pub loop-meta-init : goal.loop-meta-init
loop-meta-init c = record {
  in_context = subst (IsContextOf c.args.store.now.now []) (sym c.new-context.ensures) no_quantifiers;
  same = c.new-outside.ensures;
}

pub returns-in_err-ty : goal.returns-in_err-ty
returns-in_err-ty c =
    let f = c.in_err-ty.field-0.0 in
    let x = get_or c.args.metas.now c.loop-meta.meta-index record { 0 = 0 } in
    let q : c.from_residual.result ≡ Err f = search rules in
    rw q (type_blamed c.args.store.now.now f c.args.metas.now c.loop-meta.meta-index record { 0 = 0 } x c.loop-meta-test.true refl c.in_err-ty.ensures)

pub loop-meta-preserved : goal.loop-meta-preserved
loop-meta-preserved c =
    let x = get_or c.args.metas.now c.loop-meta.meta-index record { 0 = 0 } in
    let i = c.loop-meta.meta-index in
    let ms = c.args.metas.now in
    record {
      in_context = next_quantifier c.args.store.now.now ms i record { 0 = 0 } x c.loop-meta.outside c.loop-meta.context c.push.new.self (type_of c.in_ok-ty.ty) c.loop-meta-test.true refl c.loop-meta.invariant.in_context c.loop-meta.invariant.same c.in_ok-ty.ensures c.in_ok-push.ensures.ok;
      same = c.in_ok-push-2.ensures.ok ∙ ap (λ ks. ks ++ x.0 ∷ []) c.loop-meta.invariant.same ∙ sym (one_number_more ms i record { 0 = 0 } x c.loop-meta-test.true refl);
    }
