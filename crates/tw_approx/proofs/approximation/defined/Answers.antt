use Rattle.std.proofs.Common.{option_map, subst}
use Rattle.tw_approx.specs.Reading.{state_of}
use Rattle.tw_approx.specs.Skeletons.{definition_skeleton}
use Rattle.tw_approx.specs.Solving.{DefinitionIsRead, IsFreeInDefinition}
use Rattle.tw_approx.specs.Walks.{empty_state}
use Rattle.tw_parse.specs.View.{term_of}
use Rattle.tw_shapes.specs.Shapes.{filled}
use Rattle.tw_shapes.specs.View.{shape_of}
use Rattle.tw_approx.proofs.Fitting.{all_found, none_found}
use Rattle.tw_approx.proofs.approximation.defined.Goals as goal

pub returns-in-Some : goal.returns-in-Some
returns-in-Some c =
    let A = option_map term_of c.args.ty.now in
    let M = term_of c.args.term.now in
    let t = state_of c.definition_shape.new.walk in
    let r = subst (DefinitionIsRead c.args.signature.now empty_state t A M) c.in-Some.is c.in_ok-definition_shape.ensures in
    all_found (λ f. definition_skeleton c.args.signature.now f A M) (IsFreeInDefinition c.args.signature.now A M) t (λ θ. filled θ (shape_of c.in-Some.field-0)) r.reading

pub returns-in-None : goal.returns-in-None
returns-in-None c =
    let A = option_map term_of c.args.ty.now in
    let M = term_of c.args.term.now in
    none_found (λ f. definition_skeleton c.args.signature.now f A M) (subst (DefinitionIsRead c.args.signature.now empty_state (state_of c.definition_shape.new.walk) A M) c.in-None.is c.in_ok-definition_shape.ensures)
