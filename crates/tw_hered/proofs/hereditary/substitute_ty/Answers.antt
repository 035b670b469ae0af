use Rattle.std.proofs.Common.{◌≡◌, IfOk, subst}
use Rattle.lf.specs.Depth.{depth_limit}
use Rattle.tw_terms.specs.View.{term_of, type_of, skeleton_of}
use Rattle.tw_hered.specs.View.{environment_of}
use Rattle.tw_hered.proofs.Calls.{type_fits_in, type_value, deep_type_in}
use Rattle.tw_hered.proofs.hereditary.substitute_ty.Goals as goal

pub normal_type-requires : goal.normal_type-requires
normal_type-requires c = type_fits_in c.args.index (skeleton_of c.args.skel.now) (term_of c.args.arg.now) (environment_of c.in_ok-environment.environment.now) c.in_ok-environment.ensures (type_of c.args.body.now) c.requires

pub returns-clause-ok : goal.returns-clause-ok
returns-clause-ok c = subst (λ X. IfOk c.normal_type.result (λ a. type_of a ≡ X)) (type_value c.args.index (skeleton_of c.args.skel.now) (term_of c.args.arg.now) (environment_of c.in_ok-environment.environment.now) c.in_ok-environment.ensures (type_of c.args.body.now)) c.normal_type.ensures.ok

pub returns-clause-too_deep : goal.returns-clause-too_deep
returns-clause-too_deep c = λ f. deep_type_in c.args.index (skeleton_of c.args.skel.now) (term_of c.args.arg.now) (environment_of c.in_ok-environment.environment.now) c.in_ok-environment.ensures depth_limit (type_of c.args.body.now) c.requires (c.normal_type.ensures.too_deep f)
