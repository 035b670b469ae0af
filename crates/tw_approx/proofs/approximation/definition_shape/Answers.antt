use Rattle.std.proofs.Common.{IfOk, option_map, sym, subst}
use Rattle.tw_approx.specs.Reading.{state_of}
use Rattle.tw_approx.specs.Solving.{DefinitionIsRead}
use Rattle.tw_approx.specs.Walks.{empty_state}
use Rattle.tw_parse.specs.View.{term_of}
use Rattle.tw_approx.proofs.Answering.{if_ok}
use Rattle.tw_approx.proofs.Defining.{term_defined}
use Rattle.tw_approx.proofs.approximation.definition_shape.Goals as goal

pub returns-in-Some : goal.returns-in-Some
returns-in-Some c = subst (λ A. IfOk c.typed_shape.result (DefinitionIsRead c.args.signature.now empty_state (state_of c.typed_shape.new.walk) (option_map term_of A) (term_of c.args.term.now))) (sym c.in-Some.is) c.typed_shape.ensures

pub returns-in-None : goal.returns-in-None
returns-in-None c = subst (λ A. IfOk c.term_shape.result (DefinitionIsRead c.args.signature.now empty_state (state_of c.term_shape.new.walk) (option_map term_of A) (term_of c.args.term.now))) (sym c.in-None.is)
    (if_ok c.term_shape.result _ _ (λ o r. term_defined c.args.signature.now (term_of c.args.term.now) (state_of c.args.walk.now) (state_of c.term_shape.new.walk) o c.requires r) c.term_shape.ensures)
