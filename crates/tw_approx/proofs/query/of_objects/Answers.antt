use Rattle.std.proofs.Common.{sym, ◌∙◌}
use Rattle.tw_parse.specs.View.{term_of}
use Rattle.tw_approx.specs.Levels.{lambdas_in_type}
use Rattle.tw_approx.proofs.Places.{earliest_is, no_places}
use Rattle.tw_approx.proofs.query.of_objects.Goals as goal

pub returns-in-Some-clause-refused : goal.returns-in-Some-clause-refused
returns-in-Some-clause-refused c =
    let shallow = rw c.if-branch.false at c.in_ok-nests_deeply.ensures in
    ((c.in_ok-known.ensures.known, shallow), earliest_is (lambdas_in_type (term_of c.args.goal.now)) c.in-Some.place (sym c.in_ok-place.ensures ∙ c.in-Some.is))

pub returns-in-None-clause-objects : goal.returns-in-None-clause-objects
returns-in-None-clause-objects c = record { known = c.in_ok-known.ensures.known; no_lambda = no_places (lambdas_in_type (term_of c.args.goal.now)) (sym c.in_ok-place.ensures ∙ c.in-None.is) }
