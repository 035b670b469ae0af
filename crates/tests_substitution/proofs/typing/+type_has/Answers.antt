use Rattle.std.proofs.Common.{◌≡◌, IfOk, IsTrue, map, sym, ap, ◌∙◌, subst, arith}
use Rattle.lf.specs.Entries.{signature_of}
use Rattle.lf.specs.Skeletons.{family_skeletons}
use Rattle.lf.specs.SkeletonTyping.{TypeBySkeletons}
use Rattle.lf.specs.Syntax.{pi, skeleton}
use Rattle.tw_terms.specs.OpenView.{open_type_of}
use Rattle.tw_terms.specs.View.{skeleton_of}
use Rattle.tw_terms.proofs.OpenViews.{open_type_of-Atom}
use Rattle.tw_putting.proofs.Openings.{openings}
use Rattle.tests_substitution.specs.Kept.{heads_of}
use Rattle.tests_substitution.proofs.Heads.{of_pi}
use Rattle.tests_substitution.proofs.typing.+type_has.Goals as goal

pub returns-in_ok-inside-in-Pi : goal.returns-in_ok-inside-in-Pi
returns-in_ok-inside-in-Pi t c =
    let A = open_type_of c.deref.result.now in
    let B = open_type_of c.deref-in-Pi-2.result.now in
    let p : open_type_of c.args.ty.now ≡ pi A B = grind (arith, openings) in
    let q : skeleton (open_type_of c.deref-in-Pi.result.now) ≡ skeleton A = grind (arith, openings) in
    of_pi (family_skeletons (signature_of c.args.signature.now)) (heads_of c.args.signature.now c.args.store.now.now) (map skeleton_of c.args.variables.now) (map skeleton_of c.deref-in-Pi-3.result.now) (open_type_of c.args.ty.now) A B
    (skeleton (open_type_of c.deref-in-Pi.result.now)) c.type_has-in-Pi.result p q (ap (map skeleton_of) c.deref-in-Pi-3.ensures.value ∙ c.in_ok-inside-in-Pi.ensures) (c.in_ok-type_has-in-Pi.ensures c.if-not-branch.false) c.type_has-in-Pi.ensures

pub returns-in-Atom : goal.returns-in-Atom
returns-in-Atom t c =
    let e = ap open_type_of c.in-Atom.is ∙ open_type_of-Atom c.in-Atom.family c.in-Atom.spine in
    subst (λ A. IfOk c.atom_has.result (λ b. IsTrue b → TypeBySkeletons (family_skeletons (signature_of c.args.signature.now)) (heads_of c.args.signature.now c.args.store.now.now) (map skeleton_of c.args.variables.now) A)) (sym e) c.atom_has.ensures
