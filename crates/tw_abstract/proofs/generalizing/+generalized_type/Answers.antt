use Rattle.std.proofs.Common.{◌≡◌, arith}
use Rattle.lf.specs.Syntax.{atom}
use Rattle.tw_terms.specs.OpenView.{open_spine_of, open_type_of}
use Rattle.tw_terms.specs.View.{spine_of}
use Rattle.tw_abstract.specs.Positions.{index}
use Rattle.tw_abstract.proofs.Steps.{some_at_atom}
use Rattle.tw_abstract.proofs.Walks.{walks}
use Rattle.tw_abstract.proofs.generalizing.+generalized_type.Goals as goal

pub returns-in-Some-3 : goal.returns-in-Some-3
returns-in-Some-3 t c =
    let e : open_type_of c.args.ty.now ≡ atom c.in-Atom.family.0 (open_spine_of c.in-Atom.spine) = grind (arith, walks) in
    some_at_atom (index c.args.positions.now) spine_of c.args.binders c.in-Atom.family.0 _ _ _ _ c.in-Some-3.spine e c.in_ok-spine-in-Atom.ensures c.in-Some-3.is (grind (arith, walks))
