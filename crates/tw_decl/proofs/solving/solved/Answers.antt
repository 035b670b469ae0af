use Rattle.std.proofs.Common.{◌≡◌, List, map, subst, sym}
use Rattle.lf.specs.Entries.{BodyIsTyped, Entry, IsCanonicalSignature, signature_of}
use Rattle.lf.proofs.Entries.{canonical_is_signature}
use Rattle.tw_parse.specs.View.{term_of as written_of}
use Rattle.tw_reorder.specs.Reordered.{AreWithin}
use Rattle.tw_signature.specs.Goal.{goal_of}
use Rattle.tw_signature.specs.View.{body_of, entry_of}
use Rattle.tw_terms.specs.View.{term_of}
use Rattle.tw_decl.specs.Solutions.{answer_type}
use Rattle.tw_decl.proofs.AnswerTypes.{answer_within}
use Rattle.tw_decl.proofs.Solved.{same_proof, solution_canonical}
use Rattle.tw_decl.proofs.solving.solved.Goals as goal

pub returns-in-Ok-true-clause-stands : goal.returns-in-Ok-true-clause-stands
returns-in-Ok-true-clause-stands c =
    let Σ = signature_of c.args.session.now.signature in
    let g = goal_of c.args.goal.now in
    let a = c.args.answer.now in
    let e = c.in-Ok.entry in
    let ok = canonical_is_signature c.args.session.now.signature (subst IsCanonicalSignature c.signature-signature.ensures c.is_canonical.ensures) in
    let s = c.in-Ok.ensures.solution in
    let P = c.requires.answer.proof in
    let same : s.answer_proof ≡ P = same_proof a P s.answer_proof s.is_read c.requires.answer.has_proof in
    let within = subst (λ N. AreWithin a.free (answer_type g a) N (map term_of a.values.items)) (sym same) (answer_within Σ ok a.free g.variables (map term_of a.values.items) g.goal P c.requires.context c.requires.goal c.requires.answer.is_answer) in
    let typed = subst (λ (es : List Entry). BodyIsTyped (signature_of es) (body_of e.body)) c.signature-signature.ensures c.in-Ok.ensures.typed in
    solution_canonical Σ c.args.name (written_of c.args.text.now) g a (entry_of e) s within typed (c.in-Ok-true.ensures.yes c.in-Ok-true.field-0-test)
