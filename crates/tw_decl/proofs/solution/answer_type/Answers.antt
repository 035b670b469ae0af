use Rattle.std.proofs.Common.{◌≡◌, List, map, ap, sym, ◌∙◌, subst}
use Rattle.std.proofs.lemmas.Result.{IfOk-weaker}
use Rattle.lf.specs.Entries.{signature_of}
use Rattle.lf.proofs.Entries.{canonical_is_signature}
use Rattle.lf_unification.specs.Offering.{pi_over}
use Rattle.tw_query.specs.Rows.{FitAlong}
use Rattle.tw_query.proofs.Values.{answer_fits}
use Rattle.tw_signature.specs.Goal.{goal_of}
use Rattle.tw_terms.specs.View.{term_of, type_of}
use Rattle.tw_decl.specs.SearchSteps.{type_left}
use Rattle.tw_decl.specs.Solutions.{answer_type}
use Rattle.tw_decl.proofs.AnswerTypes.{left_is}
use Rattle.tw_decl.proofs.solution.answer_type.Goals as goal

pub type_left-requires : goal.type_left-requires
type_left-requires c =
    let Σ = signature_of c.args.signature.now in
    let g = goal_of c.args.goal.now in
    let a = c.args.answer.now in
    let e : type_of c.in_ok-over.over ≡ pi_over g.variables g.goal = c.in_ok-over.ensures ∙ ap (pi_over g.variables) c.in_ok-copy.ensures in
    let fits = answer_fits Σ g a.free (map term_of a.values.items) c.requires.answer.proof c.requires.context c.requires.goal c.requires.answer.is_answer in
    (Σ, a.free, subst (λ Ns. FitAlong Σ a.free (type_of c.in_ok-over.over) Ns) (sym (ap (map term_of) c.deref.ensures.value)) (subst (λ A. FitAlong Σ a.free A (map term_of a.values.items)) (sym e) fits))

pub returns : goal.returns
returns c =
    let Σ = signature_of c.args.signature.now in
    let g = goal_of c.args.goal.now in
    let a = c.args.answer.now in
    let e : type_of c.in_ok-over.over ≡ pi_over g.variables g.goal = c.in_ok-over.ensures ∙ ap (pi_over g.variables) c.in_ok-copy.ensures in
    let left = left_is Σ (canonical_is_signature c.args.signature.now c.is_canonical.ensures) a.free g.variables (map term_of a.values.items) g.goal c.requires.context c.requires.goal c.requires.answer.is_answer.values_typed in
    let same : type_left (type_of c.in_ok-over.over) (map term_of c.deref.result.now) ≡ answer_type g a = ap (λ A. type_left A (map term_of c.deref.result.now)) e ∙ ap (λ (Ns : List _). type_left (pi_over g.variables g.goal) (map term_of Ns)) c.deref.ensures.value ∙ left in
    IfOk-weaker c.type_left.result _ (λ x. type_of x ≡ answer_type g a) (λ x h. h ∙ same) c.type_left.ensures
