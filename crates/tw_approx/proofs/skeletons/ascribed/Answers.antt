use Rattle.std.proofs.Common.{refl}
use Rattle.tw_approx.specs.Reading.{state_of}
use Rattle.tw_shapes.specs.View.{shape_of}
use Rattle.tw_approx.proofs.Unifying.{unified, not_unified, ascribed_reads, ascribed_refuses}
use Rattle.tw_approx.proofs.skeletons.ascribed.Goals as goal

pub returns-then-branch : goal.returns-then-branch
returns-then-branch c =
    let S = shape_of c.args.shape in
    let T = shape_of c.args.expected in
    ascribed_reads (state_of c.args.walk.now) c.unify.new.self S T c.requires.sound c.requires.shape (unified c.args.walk.now.shapes c.unify.new.self S T T c.in_ok-unify.field-0 c.if-branch.true refl c.in_ok-unify.ensures.ok)

pub returns-else-branch : goal.returns-else-branch
returns-else-branch c =
    let S = shape_of c.args.shape in
    let T = shape_of c.args.expected in
    ascribed_refuses (state_of c.args.walk.now) S T (not_unified c.args.walk.now.shapes c.unify.new.self S T T c.in_ok-unify.field-0 c.if-branch.false refl c.in_ok-unify.ensures.ok)
