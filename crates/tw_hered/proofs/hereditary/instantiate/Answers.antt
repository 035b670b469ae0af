use Rattle.std.proofs.Common.{◌≡◌, ◌<◌, IfOk, subst}
use Rattle.lf.specs.Depth.{type_depth}
use Rattle.tw_terms.specs.View.{term_of, type_of, skeleton_of}
use Rattle.tw_hered.specs.View.{environment_of}
use Rattle.tw_hered.proofs.Calls.{newest_type_fits, newest_type_value}
use Rattle.tw_hered.proofs.hereditary.instantiate.Goals as goal

pub normal_type-requires : goal.normal_type-requires
normal_type-requires c = newest_type_fits (skeleton_of c.args.skel.now) (term_of c.args.arg.now) (environment_of c.in_ok-environment.environment.now) (type_of c.args.body.now) c.in_ok-environment.ensures c.requires

pub returns-clause-ok : goal.returns-clause-ok
returns-clause-ok c = subst (λ X. IfOk c.normal_type.result (λ a. type_of a ≡ X)) (newest_type_value (skeleton_of c.args.skel.now) (term_of c.args.arg.now) (environment_of c.in_ok-environment.environment.now) (type_of c.args.body.now) c.in_ok-environment.ensures) c.normal_type.ensures.ok

pub returns-clause-too_deep : goal.returns-clause-too_deep
returns-clause-too_deep c = λ f. subst (λ X. c.args.levels < type_depth X) (newest_type_value (skeleton_of c.args.skel.now) (term_of c.args.arg.now) (environment_of c.in_ok-environment.environment.now) (type_of c.args.body.now) c.in_ok-environment.ensures) (c.normal_type.ensures.too_deep f)
