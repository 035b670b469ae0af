use Rattle.std.proofs.Common.{◌≡◌, arith}
use Rattle.lf.specs.Syntax.{atom, pi}
use Rattle.tw_signature.proofs.Marking.{on_ok}
use Rattle.tw_terms.specs.View.{spine_of, type_of}
use Rattle.tw_terms.proofs.Args.{types}
use Rattle.tw_mode.proofs.Mentioning.{goal_atom, goal_inside}
use Rattle.tw_mode.proofs.mentions.+mark_goal.Goals as goal

pub returns-in_ok-one_more-in-Pi : goal.returns-in_ok-one_more-in-Pi
returns-in_ok-one_more-in-Pi t c =
    let e : type_of c.args.ty.now ≡ pi (type_of c.in-Pi.field-0.value) (type_of c.deref.result.now) = grind (arith, types) in
    on_ok c.mark_goal.result _ _ (goal_inside c.args.places.now c.args.depth c.in_ok-one_more-in-Pi.field-0 (type_of c.args.ty.now) (type_of c.in-Pi.field-0.value) (type_of c.deref.result.now) c.args.marks.now c.mark_goal.new.marks e c.in_ok-one_more-in-Pi.ensures c.requires) c.mark_goal.ensures

pub returns-in-Atom : goal.returns-in-Atom
returns-in-Atom t c =
    let e : type_of c.args.ty.now ≡ atom c.in-Atom.field-0.0 (spine_of c.in-Atom.spine) = grind (arith, types) in
    on_ok c.mark_at.result _ _ (goal_atom c.args.places.now c.args.depth c.in-Atom.field-0.0 (type_of c.args.ty.now) (spine_of c.in-Atom.spine) c.args.marks.now c.mark_at.new.marks e) c.mark_at.ensures
