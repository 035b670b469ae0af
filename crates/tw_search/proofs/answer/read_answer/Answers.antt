use Rattle.std.proofs.Common.{◌≡◌, Err, ap, map, subst, rules, ◌∙◌, arith}
use Rattle.tw_abstract.specs.Causes.{BlamesQuantifiers}
use Rattle.tw_hered.specs.declared.fault.HeredFault.TheVariants.{TooDeep}
use Rattle.tw_terms.specs.declared.canonical.MetaId.{MetaId}
use Rattle.tw_search.proofs.LeafReading.{answer_value_deep, quantifiers_deep, same_fault}
use Rattle.tw_search.proofs.answer.read_answer.Goals as goal

pub returns-in_err-quantifiers-clause-too_deep : goal.returns-in_err-quantifiers-clause-too_deep
returns-in_err-quantifiers-clause-too_deep c h G l =
    let s = c.args.store.now.now in
    let sites = map (λ (m : MetaId). m.0) c.deref.result.now in
    let f = c.in_err-quantifiers.field-0.0 in
    let e : c.from_residual-in_err-quantifiers.result ≡ Err f = search rules in
    let q : f ≡ TooDeep = same_fault c.from_residual-in_err-quantifiers.result f TooDeep e h in
    quantifiers_deep s c.args.variables c.requires G l sites c.args.with_proof (ap (map (λ (m : MetaId). m.0)) c.deref.ensures.value ∙ c.in_ok-sites.ensures) (subst (λ x. BlamesQuantifiers x s sites) q c.in_err-quantifiers.ensures)

pub returns-in_err-values-clause-too_deep : goal.returns-in_err-values-clause-too_deep
returns-in_err-values-clause-too_deep c h G l =
    let f = c.in_err-values.field-0.0 in
    let e : c.from_residual-in_err-values.result ≡ Err f = search rules in
    let q : f ≡ TooDeep = same_fault c.from_residual-in_err-values.result f TooDeep e h in
    let (m, b, d) = c.in_err-values.ensures.too_deep (ap Err q) in
    answer_value_deep c.args.store.now.now c.args.variables c.requires G l m b d

pub returns-in_err-proof-clause-too_deep : goal.returns-in_err-proof-clause-too_deep
returns-in_err-proof-clause-too_deep c h G l =
    let f = c.in_err-proof.field-0.0 in
    let e : c.from_residual-in_err-proof.result ≡ Err f = search rules in
    let q : f ≡ TooDeep = same_fault c.from_residual-in_err-proof.result f TooDeep e h in
    answer_value_deep c.args.store.now.now c.args.variables c.requires G l c.args.variables (omega arith) (c.in_err-proof.ensures.too_deep (ap Err q))
