use Rattle.std.proofs.Common.{◌≡◌, ◌∙◌, [], Some, ap, sym, subst}
use Rattle.lf.specs.Entries.{signature_of}
use Rattle.tw_signature.specs.View.{body_of}
use Rattle.tw_terms.specs.View.{term_of, type_of}
use Rattle.tw_print.specs.SceneView.{scene_in}
use Rattle.tw_print.specs.Showable.{IsShowable}
use Rattle.tw_print.proofs.Typed.{defined_shown}
use Rattle.tw_print.proofs.declaration.print_defined.Goals as goal

pub print_term-requires-clause-typed : goal.print_term-requires-clause-typed
print_term-requires-clause-typed c =
    let Σ = signature_of (scene_in c.args.scene.now).entries in
    let M = term_of c.in-Defined.term in
    let A = type_of c.in-Defined.ty in
    let g : c.space-in-Defined.new.self.context ≡ [] = c.in_ok-space-in-Defined-2.ensures.context ∙ c.in_ok-token-in-Defined.ensures.context ∙ c.in_ok-space-in-Defined.ensures.context ∙ c.requires.empty_context in
    subst (λ G. IsShowable Σ G M (Some A)) (sym g) (defined_shown Σ (body_of c.args.body.now) M A c.in-Defined.abbrev (ap body_of c.in-Defined.is) c.requires.typed).1
