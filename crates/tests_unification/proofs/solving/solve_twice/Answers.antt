use Rattle.std.proofs.Common.{[], map, subst}
use Rattle.lf.specs.Entries.{signature_of}
use Rattle.lf_unification.specs.Solving as solving
use Rattle.tw_metas.specs.View.{equation_of}
use Rattle.tw_putting.specs.Whole.{whole}
use Rattle.tw_unify.specs.Answers.{Answers}
use Rattle.tests_unification.proofs.solving.solve_twice.Goals as goal

pub solve_more-requires-in-Left-clause-left : goal.solve_more-requires-in-Left-clause-left
solve_more-requires-in-Left-clause-left c =
    let Σ = signature_of c.args.signature.now in
    let before = whole (map equation_of c.args.equations.items) c.args.store.now.now in
    let t = c.solve_more.new.store.now in
    let left : solving.Left Σ before (whole [] t) = subst (λ a. Answers a Σ before (whole [] t)) c.in-Left.is c.in_ok-other.ensures.answer in
    c.all_left_over_are_left.ensures before.metavariables t left.all_left_over
