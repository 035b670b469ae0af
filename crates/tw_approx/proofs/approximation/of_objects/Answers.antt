use Rattle.std.proofs.Common.{sym, ◌∙◌}
use Rattle.tw_parse.specs.View.{declaration_of}
use Rattle.tw_approx.specs.Levels.{type_lambdas}
use Rattle.tw_approx.proofs.Places.{earliest_is, no_places}
use Rattle.tw_approx.proofs.approximation.of_objects.Goals as goal

pub returns-in-Some-clause-refused : goal.returns-in-Some-clause-refused
returns-in-Some-clause-refused c = (c.requires, sym c.in_ok-is_type_definition.ensures ∙ c.if-branch.false, earliest_is (type_lambdas (declaration_of c.args.decl.now)) c.in-Some.place (sym c.in_ok-place.ensures ∙ c.in-Some.is))

pub returns-in-None-clause-objects : goal.returns-in-None-clause-objects
returns-in-None-clause-objects c = record { known = c.requires.0; no_definition = sym c.in_ok-is_type_definition.ensures ∙ c.if-branch.false; no_lambda = no_places (type_lambdas (declaration_of c.args.decl.now)) (sym c.in_ok-place.ensures ∙ c.in-None.is) }
