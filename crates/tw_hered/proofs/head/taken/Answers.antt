use Rattle.std.proofs.Common.{◌≡◌, IfOk, option_map, sym, subst, arith}
use Rattle.std.proofs.lemmas.Grind.{common_steps}
use Rattle.lf_closures.specs.Environments.{outside}
use Rattle.tw_terms.specs.View.{term_of, skeleton_of}
use Rattle.tw_hered.specs.View.{environment_of}
use Rattle.tw_hered.specs.Made.{with_argument}
use Rattle.tw_hered.proofs.Environments.{environments, environment_of-Extended}
use Rattle.tw_hered.proofs.head.taken.Goals as goal

pub returns-in_ok-outside-in-Some : goal.returns-in_ok-outside-in-Some
returns-in_ok-outside-in-Some c =
    let o : environment_of c.in_ok-outside-in-Some.outside.now ≡ outside = grind (arith, environments) in
    subst (λ k. IfOk c.placed-in-Some.result (λ e. environment_of e.now ≡ with_argument (skeleton_of c.args.skeleton.now) (term_of c.args.arg.now) (option_map (λ m. m.now) k) (environment_of c.args.scope.now) (environment_of c.args.rest.now))) (sym c.in-Some.is) (grind (arith, common_steps, environment_of-Extended, o))
