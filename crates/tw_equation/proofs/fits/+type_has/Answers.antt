use Rattle.std.proofs.Common.{map, option_map, sym, ap, ◌∙◌}
use Rattle.lf.specs.Entries.{signature_of}
use Rattle.lf.specs.Skeletons.{constant_skeletons, family_skeletons}
use Rattle.tw_terms.specs.View.{skeleton_of, spine_of, type_of}
use Rattle.tw_terms.proofs.Views.{skeleton_of-Base, type_of-Atom}
use Rattle.tw_equation.proofs.Skeletons.{of_atom}
use Rattle.tw_equation.proofs.fits.+type_has.Goals as goal

pub returns-in-Some : goal.returns-in-Some
returns-in-Some t c =
    let family = c.in-Atom.family in
    let spine = c.in-Atom.spine in
    of_atom (family_skeletons (signature_of c.args.signature.now)) (constant_skeletons (signature_of c.args.signature.now)) (map skeleton_of c.args.variables.now) (type_of c.args.ty.now) family.0 (spine_of spine) (skeleton_of c.in-Some.taken) _ c.spine_has.result
    (ap type_of c.in-Atom.is ∙ type_of-Atom family spine) (skeleton_of-Base family)
    (ap (option_map skeleton_of) (sym c.in-Some.is) ∙ c.in_ok-taken-in-Atom.ensures) c.spine_has.ensures
