use Rattle.std.proofs.Common.{subst}
use Rattle.tw_approx.specs.Reading.{state_of, TermIsRead, TypeIsRead}
use Rattle.tw_parse.specs.View.{term_of}
use Rattle.tw_shapes.specs.Shapes.{count_of}
use Rattle.tw_shapes.specs.View.{shape_of}
use Rattle.tw_approx.proofs.Answering.{if_ok}
use Rattle.tw_approx.proofs.Assigning.{shape_more}
use Rattle.tw_approx.proofs.Defining.{typed_refuses, typed_refuses_term, typed_defined}
use Rattle.tw_approx.proofs.approximation.typed_shape.Goals as goal

pub returns-in_default : goal.returns-in_default
returns-in_default c = typed_refuses c.args.signature.now (term_of c.args.ty.now) (term_of c.args.term.now) (state_of c.args.walk.now) (state_of c.type_shape.new.walk) c.requires (subst (TypeIsRead c.args.signature.now (state_of c.args.walk.now) (state_of c.type_shape.new.walk) (term_of c.args.ty.now)) c.in_default.is c.in_ok-expected.ensures)

pub returns-in_default-2 : goal.returns-in_default-2
returns-in_default-2 c =
    let s = state_of c.args.walk.now in
    let t = state_of c.type_shape.new.walk in
    typed_refuses_term c.args.signature.now (term_of c.args.ty.now) (term_of c.args.term.now) s t (state_of c.term_shape.new.walk) c.in-Some.expected c.requires (subst (TypeIsRead c.args.signature.now s t (term_of c.args.ty.now)) c.in-Some.is c.in_ok-expected.ensures) (subst (TermIsRead c.args.signature.now t (state_of c.term_shape.new.walk) (term_of c.args.term.now)) c.in_default-2.is c.in_ok-shape.ensures)

pub ascribed-requires-clause-shape : goal.ascribed-requires-clause-shape
ascribed-requires-clause-shape c =
    let s = state_of c.args.walk.now in
    let t = state_of c.type_shape.new.walk in
    let one = subst (TypeIsRead c.args.signature.now s t (term_of c.args.ty.now)) c.in-Some.is c.in_ok-expected.ensures in
    let two = subst (TermIsRead c.args.signature.now t (state_of c.term_shape.new.walk) (term_of c.args.term.now)) c.in-Some-2.is c.in_ok-shape.ensures in
    shape_more (count_of c.type_shape.new.walk.shapes) (count_of c.term_shape.new.walk.shapes) (shape_of c.in-Some.expected) two.reading.count one.within

pub returns : goal.returns
returns c =
    let s = state_of c.args.walk.now in
    let t = state_of c.type_shape.new.walk in
    let one = subst (TypeIsRead c.args.signature.now s t (term_of c.args.ty.now)) c.in-Some.is c.in_ok-expected.ensures in
    let two = subst (TermIsRead c.args.signature.now t (state_of c.term_shape.new.walk) (term_of c.args.term.now)) c.in-Some-2.is c.in_ok-shape.ensures in
    if_ok c.ascribed.result _ _ (typed_defined c.args.signature.now (term_of c.args.ty.now) (term_of c.args.term.now) s t (state_of c.term_shape.new.walk) (state_of c.ascribed.new.walk) c.in-Some.expected c.in-Some-2.shape c.requires one two) c.ascribed.ensures
