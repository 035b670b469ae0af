use Rattle.std.proofs.Common.{◌≡◌, IfOk, subst}
use Rattle.lf.specs.Depth.{depth_limit}
use Rattle.tw_terms.specs.View.{term_of, skeleton_of}
use Rattle.tw_hered.specs.View.{environment_of}
use Rattle.tw_hered.proofs.Calls.{term_fits_in, term_value_in, deep_term_in}
use Rattle.tw_hered.proofs.hereditary.substitute.Goals as goal

pub canonical-requires : goal.canonical-requires
canonical-requires c = term_fits_in c.args.index (skeleton_of c.args.skel.now) (term_of c.args.arg.now) (environment_of c.in_ok-environment.environment.now) c.in_ok-environment.ensures (term_of c.args.body.now) c.requires

pub returns-clause-ok : goal.returns-clause-ok
returns-clause-ok c = subst (λ X. IfOk c.canonical.result (λ m. term_of m ≡ X)) (term_value_in c.args.index (skeleton_of c.args.skel.now) (term_of c.args.arg.now) (environment_of c.in_ok-environment.environment.now) c.in_ok-environment.ensures (term_of c.args.body.now)) c.canonical.ensures.ok

pub returns-clause-too_deep : goal.returns-clause-too_deep
returns-clause-too_deep c = λ f. deep_term_in c.args.index (skeleton_of c.args.skel.now) (term_of c.args.arg.now) (environment_of c.in_ok-environment.environment.now) c.in_ok-environment.ensures depth_limit (term_of c.args.body.now) c.requires (c.canonical.ensures.too_deep f)
