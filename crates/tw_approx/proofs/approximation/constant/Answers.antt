use Rattle.std.proofs.Common.{[], Some, None, subst}
use Rattle.tw_approx.specs.Names.{IsFreeIn}
use Rattle.tw_approx.specs.Reading.{state_of, TypeIsRead}
use Rattle.tw_approx.specs.Skeletons.{type_skeleton}
use Rattle.tw_parse.specs.View.{term_of}
use Rattle.tw_shapes.specs.Shapes.{filled}
use Rattle.tw_shapes.specs.View.{shape_of}
use Rattle.tw_approx.proofs.Fitting.{all_found, none_found}
use Rattle.tw_approx.proofs.approximation.constant.Goals as goal

pub returns-in-Some : goal.returns-in-Some
returns-in-Some c =
    let U = term_of c.args.term.now in
    let t = state_of c.type_shape.new.walk in
    let r = subst (λ s. TypeIsRead c.args.signature.now s t U (Some c.in-Some.field-0)) c.new-walk.ensures (subst (TypeIsRead c.args.signature.now (state_of c.new-walk.result) t U) c.in-Some.is c.in_ok-type_shape.ensures) in
    all_found (λ f. type_skeleton c.args.signature.now f [] [] U) (λ x. IsFreeIn c.args.signature.now x [] U) t (λ θ. filled θ (shape_of c.in-Some.field-0)) r.reading

pub returns-in-None : goal.returns-in-None
returns-in-None c =
    let U = term_of c.args.term.now in
    let t = state_of c.type_shape.new.walk in
    none_found (λ f. type_skeleton c.args.signature.now f [] [] U) (subst (λ s. TypeIsRead c.args.signature.now s t U None) c.new-walk.ensures (subst (TypeIsRead c.args.signature.now (state_of c.new-walk.result) t U) c.in-None.is c.in_ok-type_shape.ensures))
