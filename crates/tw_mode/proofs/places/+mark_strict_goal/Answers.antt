use Rattle.std.proofs.Common.{◌≡◌, arith}
use Rattle.lf.specs.Syntax.{atom, pi}
use Rattle.tw_signature.proofs.Marking.{on_ok}
use Rattle.tw_terms.specs.View.{spine_of, type_of}
use Rattle.tw_terms.proofs.Args.{types}
use Rattle.tw_mode.specs.Scopes.{bound_in, fixed_in}
use Rattle.tw_mode.proofs.Strictness.{goal_atom, goal_inside}
use Rattle.tw_mode.proofs.places.+mark_strict_goal.Goals as goal

pub returns-in_ok-inside-in-Pi : goal.returns-in_ok-inside-in-Pi
returns-in_ok-inside-in-Pi t c =
    let s = c.args.scope.now in
    let i = c.in_ok-inside-in-Pi.field-0 in
    let e : type_of c.args.ty.now ≡ pi (type_of c.in-Pi.field-0.value) (type_of c.deref.result.now) = grind (arith, types) in
    on_ok c.mark_strict_goal.result _ _ (goal_inside c.args.places.now (bound_in s) (fixed_in s) (bound_in i) (fixed_in i) s.depth i.depth (type_of c.args.ty.now) (type_of c.in-Pi.field-0.value) (type_of c.deref.result.now) c.args.marks.now c.mark_strict_goal.new.marks e c.in_ok-inside-in-Pi.ensures.depth c.in_ok-inside-in-Pi.ensures.bound c.in_ok-inside-in-Pi.ensures.fixed c.requires.marks) c.mark_strict_goal.ensures

pub returns-in-Atom : goal.returns-in-Atom
returns-in-Atom t c =
    let s = c.args.scope.now in
    let e : type_of c.args.ty.now ≡ atom c.in-Atom.field-0.0 (spine_of c.in-Atom.spine) = grind (arith, types) in
    on_ok c.mark_strict_at.result _ _ (goal_atom c.args.places.now (bound_in s) (fixed_in s) s.depth c.in-Atom.field-0.0 (type_of c.args.ty.now) (spine_of c.in-Atom.spine) c.args.marks.now c.mark_strict_at.new.marks e) c.mark_strict_at.ensures
