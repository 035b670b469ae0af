use Rattle.std.proofs.Common.{◌∙◌, ap}
use Rattle.tw_approx.specs.Reading.{state_of}
use Rattle.tw_shapes.proofs.Views.{shape_of-Variable}
use Rattle.tw_shapes.specs.Shapes.{count_of, arrow}
use Rattle.tw_shapes.specs.View.{shape_of}
use Rattle.tw_approx.proofs.Assigning.{shape_more}
use Rattle.tw_approx.proofs.Unifying.{IsFresh, unified, not_unified, unknown_reads, unknown_refuses}
use Rattle.tw_approx.proofs.chains.applied_unknown.Goals as goal

pub unify-requires-clause-left : goal.unify-requires-clause-left
unify-requires-clause-left c = shape_more (count_of c.args.walk.now.shapes) (count_of c.fresh.new.self) (shape_of c.args.function) c.in_ok-range.ensures.count c.requires.function

pub unify-requires-clause-right : goal.unify-requires-clause-right
unify-requires-clause-right c =
    let old = count_of c.args.walk.now.shapes in
    let new = count_of c.fresh.new.self in
    rw (c.in_ok-expected.ensures, shape_of-Variable) (shape_more old new (shape_of c.args.argument) c.in_ok-range.ensures.count c.requires.argument, c.in_ok-range.ensures.within)

pub returns-then-branch : goal.returns-then-branch
returns-then-branch c =
    let v = c.in_ok-range.range in
    let e = c.in_ok-range.ensures in
    let S = shape_of c.args.function in
    let U = shape_of c.args.argument in
    let fresh : IsFresh c.args.walk.now.shapes c.fresh.new.self v.0 = record { number = e.number; within = e.within; count = e.count; same = e.same; unused = e.unused } in
    let t = c.in_ok-expected.ensures ∙ ap (arrow U) (shape_of-Variable v) in
    rw (shape_of-Variable v) (unknown_reads (state_of c.args.walk.now) c.fresh.new.self c.unify.new.self v.0 S U c.requires.sound c.requires.function c.requires.argument fresh
    (unified c.fresh.new.self c.unify.new.self S (shape_of c.in_ok-expected.expected) _ c.in_ok-unify.field-0 c.if-branch.true t c.in_ok-unify.ensures.ok))

pub returns : goal.returns
returns c =
    let v = c.in_ok-range.range in
    let e = c.in_ok-range.ensures in
    let S = shape_of c.args.function in
    let U = shape_of c.args.argument in
    let fresh : IsFresh c.args.walk.now.shapes c.fresh.new.self v.0 = record { number = e.number; within = e.within; count = e.count; same = e.same; unused = e.unused } in
    let t = c.in_ok-expected.ensures ∙ ap (arrow U) (shape_of-Variable v) in
    unknown_refuses (state_of c.args.walk.now) c.fresh.new.self v.0 S U c.requires.sound c.requires.function c.requires.argument fresh
    (not_unified c.fresh.new.self c.unify.new.self S (shape_of c.in_ok-expected.expected) _ c.in_ok-unify.field-0 c.if-branch.false t c.in_ok-unify.ensures.ok)
