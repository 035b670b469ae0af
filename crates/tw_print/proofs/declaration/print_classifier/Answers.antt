use Rattle.std.proofs.Common.{ap, sym, subst}
use Rattle.lf.specs.Entries.{signature_of}
use Rattle.tw_signature.specs.View.{body_of}
use Rattle.tw_terms.specs.View.{kind_of, term_of, type_of}
use Rattle.tw_print.specs.SceneView.{scene_in}
use Rattle.tw_print.specs.Showable.{IsShowableKind}
use Rattle.tw_print.proofs.Typed.{family_shown, constant_shown, defined_shown}
use Rattle.tw_print.proofs.declaration.print_classifier.Goals as goal

pub print_leading_kind-requires-clause-typed : goal.print_leading_kind-requires-clause-typed
print_leading_kind-requires-clause-typed c =
    let Σ = signature_of (scene_in c.args.scene.now).entries in
    subst (λ G. IsShowableKind Σ G (kind_of c.in-Family.kind)) (sym c.requires.empty_context) (family_shown Σ (body_of c.args.body.now) (kind_of c.in-Family.kind) (ap body_of c.in-Family.is) c.requires.typed)

pub print_leading_type-requires-clause-typed : goal.print_leading_type-requires-clause-typed
print_leading_type-requires-clause-typed c =
    constant_shown (signature_of (scene_in c.args.scene.now).entries) (body_of c.args.body.now) (type_of c.in-Constant.ty) (ap body_of c.in-Constant.is) c.requires.typed

pub print_leading_type-requires-in-Defined-clause-typed : goal.print_leading_type-requires-in-Defined-clause-typed
print_leading_type-requires-in-Defined-clause-typed c =
    (defined_shown (signature_of (scene_in c.args.scene.now).entries) (body_of c.args.body.now) (term_of c.in-Defined.term) (type_of c.in-Defined.ty) c.in-Defined.abbrev (ap body_of c.in-Defined.is) c.requires.typed).0
