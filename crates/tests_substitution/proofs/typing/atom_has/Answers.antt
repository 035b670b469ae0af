use Rattle.std.proofs.Common.{map, option_map, refl, sym, ap, ◌∙◌}
use Rattle.lf.specs.Entries.{signature_of}
use Rattle.lf.specs.Skeletons.{family_skeletons}
use Rattle.lf.specs.Syntax.{atom}
use Rattle.tw_terms.specs.OpenView.{open_spine_of}
use Rattle.tw_terms.specs.View.{skeleton_of}
use Rattle.tw_terms.proofs.Views.{skeleton_of-Base}
use Rattle.tests_substitution.specs.Kept.{heads_of}
use Rattle.tests_substitution.proofs.Heads.{of_atom}
use Rattle.tests_substitution.proofs.typing.atom_has.Goals as goal

pub returns-in-Some : goal.returns-in-Some
returns-in-Some c =
    let S = open_spine_of c.args.spine.now in
    of_atom (family_skeletons (signature_of c.args.signature.now)) (heads_of c.args.signature.now c.args.store.now.now) (map skeleton_of c.args.variables.now) (atom c.args.family.0 S) c.args.family.0 S (skeleton_of c.in-Some.taken) _ c.spine_has.result
    refl (skeleton_of-Base c.args.family) (ap (option_map skeleton_of) (sym c.in-Some.is) ∙ c.in_ok-taken.ensures) c.spine_has.ensures
