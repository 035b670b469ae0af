use Rattle.std.proofs.Common.{refl, ap, ◌∙◌}
use Rattle.tw_approx.specs.Reading.{state_of, due_of}
use Rattle.tw_shapes.specs.View.{shape_of}
use Rattle.tw_approx.proofs.Known.{argument_reads, argument_refuses}
use Rattle.tw_approx.proofs.Unifying.{unified, not_unified}
use Rattle.tw_approx.proofs.Views.{due_of-Next}
use Rattle.tw_approx.proofs.skeletons.known_on_argument.Goals as goal

pub returns-then-branch : goal.returns-then-branch
returns-then-branch c =
    let E = shape_of c.in-Next.expected in
    let U = shape_of c.args.argument in
    let is = ap due_of c.in-Next.is ∙ due_of-Next c.in-Next.expected c.in-Next.rest in
    rw (c.into_inner.ensures) (argument_reads (state_of c.args.walk.now) c.unify.new.self c.args.due c.in-Next.rest.value E U c.args.target is c.requires.sound c.requires.due c.requires.target
    (unified c.args.walk.now.shapes c.unify.new.self E U U c.in_ok-unify-in-Next.field-0 c.if-branch.true refl c.in_ok-unify-in-Next.ensures.ok))

pub returns-else-branch : goal.returns-else-branch
returns-else-branch c =
    let E = shape_of c.in-Next.expected in
    let U = shape_of c.args.argument in
    let is = ap due_of c.in-Next.is ∙ due_of-Next c.in-Next.expected c.in-Next.rest in
    argument_refuses (state_of c.args.walk.now) c.args.due c.in-Next.rest.value E U c.args.target is
    (not_unified c.args.walk.now.shapes c.unify.new.self E U U c.in_ok-unify-in-Next.field-0 c.if-branch.false refl c.in_ok-unify-in-Next.ensures.ok)
