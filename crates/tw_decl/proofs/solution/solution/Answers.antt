use Rattle.std.proofs.Common.{◌≡◌, Some, None, false, map, ap, sym, ◌∙◌, subst, true}
use Rattle.std.specs.Option.{option_map}
use Rattle.std.proofs.lemmas.Result.{IfOk-weaker}
use Rattle.lf.specs.Entries.{BodyIsTyped, signature_of}
use Rattle.lf.proofs.Entries.{canonical_is_signature}
use Rattle.tw_reorder.specs.Reordered.{AreReordered, AreWithin}
use Rattle.tw_signature.specs.Goal.{goal_of}
use Rattle.tw_signature.specs.View.{body_of}
use Rattle.tw_terms.specs.View.{term_of, type_of}
use Rattle.tw_decl.specs.Solutions.{answer_type}
use Rattle.tw_decl.proofs.AnswerTypes.{answer_within}
use Rattle.tw_decl.proofs.Solved.{reordered_body, same_proof}
use Rattle.tw_decl.proofs.solution.solution.Goals as goal

pub reorder-requires : goal.reorder-requires
reorder-requires c =
    let Σ = signature_of c.args.signature.now in
    let g = goal_of c.args.goal.now in
    let a = c.args.answer.now in
    let P = c.requires.answer.proof in
    let M = term_of c.in-Some.proof in
    let same : M ≡ P = same_proof a P M (ap (option_map term_of) c.in-Some.is) c.requires.answer.has_proof in
    let within = answer_within Σ (canonical_is_signature c.args.signature.now c.is_canonical.ensures) a.free g.variables (map term_of a.values.items) g.goal P c.requires.context c.requires.goal c.requires.answer.is_answer in
    let there = subst (λ N. AreWithin a.free (answer_type g a) N (map term_of a.values.items)) (sym same) within in
    subst (λ Ns. AreWithin a.free (type_of c.in_ok-ty.ty) M Ns) (sym (ap (map term_of) c.deref.ensures.value)) (subst (λ A. AreWithin a.free A M (map term_of a.values.items)) (sym c.in_ok-ty.ensures) there)

pub returns-clause-typed : goal.returns-clause-typed
returns-clause-typed c =
    let Σ = signature_of c.args.signature.now in
    let g = goal_of c.args.goal.now in
    let a = c.args.answer.now in
    let P = c.requires.answer.proof in
    let M = term_of c.in-Some.proof in
    let p = c.in_ok-parts-in-Some.parts in
    let same : M ≡ P = same_proof a P M (ap (option_map term_of) c.in-Some.is) c.requires.answer.has_proof in
    let r = subst (λ Ns. AreReordered a.free (type_of c.in_ok-ty.ty) M Ns p.order p.context (type_of p.ty) (term_of p.term)) (ap (map term_of) c.deref.ensures.value) c.in_ok-parts-in-Some.ensures in
    let s = subst (λ A. AreReordered a.free A M (map term_of a.values.items) p.order p.context (type_of p.ty) (term_of p.term)) c.in_ok-ty.ensures r in
    let t = subst (λ N. AreReordered a.free (answer_type g a) N (map term_of a.values.items) p.order p.context (type_of p.ty) (term_of p.term)) same s in
    IfOk-weaker c.closed.result _ (λ e. BodyIsTyped Σ (body_of e.body))
    (λ e h. reordered_body Σ (canonical_is_signature c.args.signature.now c.is_canonical.ensures) g a P p.order p.context (type_of p.ty) (term_of p.term) (body_of e.body) c.requires.context c.requires.goal c.requires.answer.is_answer t h) c.closed.ensures.body
