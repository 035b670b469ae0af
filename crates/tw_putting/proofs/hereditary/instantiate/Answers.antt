use Rattle.std.proofs.Common.{◌≡◌, ◌<◌, IfOk, subst}
use Rattle.lf.specs.Depth.{type_depth}
use Rattle.lf.specs.Syntax.{skeleton}
use Rattle.tw_terms.specs.OpenView.{open_term_of, open_type_of}
use Rattle.tw_putting.specs.Domains.{most_levels}
use Rattle.tw_putting.specs.View.{environment_of}
use Rattle.tw_putting.proofs.Calls.{newest_type_value, newest_type_walk}
use Rattle.tw_putting.proofs.hereditary.instantiate.Goals as goal

pub normal_type-requires : goal.normal_type-requires
normal_type-requires c = newest_type_walk c.new-store.result (skeleton (open_type_of c.args.ty.now)) (open_term_of c.args.arg.now) (environment_of c.in_ok-environment.environment.now) (open_type_of c.args.body.now) c.new-store.ensures c.in_ok-environment.ensures c.requires

pub returns-clause-ok : goal.returns-clause-ok
returns-clause-ok c = subst (λ X. IfOk c.normal_type.result (λ a. open_type_of a ≡ X)) (newest_type_value c.new-store.result (skeleton (open_type_of c.args.ty.now)) (open_term_of c.args.arg.now) (environment_of c.in_ok-environment.environment.now) (open_type_of c.args.body.now) c.new-store.ensures c.in_ok-environment.ensures) c.normal_type.ensures.ok

pub returns-clause-too_deep : goal.returns-clause-too_deep
returns-clause-too_deep c = λ f. subst (λ X. most_levels < type_depth X) (newest_type_value c.new-store.result (skeleton (open_type_of c.args.ty.now)) (open_term_of c.args.arg.now) (environment_of c.in_ok-environment.environment.now) (open_type_of c.args.body.now) c.new-store.ensures c.in_ok-environment.ensures) (c.normal_type.ensures.too_deep f)
