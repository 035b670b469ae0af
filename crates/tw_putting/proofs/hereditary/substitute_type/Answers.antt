use Rattle.std.proofs.Common.{◌≡◌, ◌<◌, IfOk, subst}
use Rattle.lf.specs.Depth.{depth_limit, type_depth}
use Rattle.lf.specs.Syntax.{skeleton}
use Rattle.tw_terms.specs.OpenView.{open_term_of, open_type_of}
use Rattle.tw_putting.specs.View.{environment_of}
use Rattle.tw_putting.proofs.Calls.{type_substituted, type_walk}
use Rattle.tw_putting.proofs.hereditary.substitute_type.Goals as goal

pub normal_type-requires : goal.normal_type-requires
normal_type-requires c = type_walk c.new-store.result c.new-store.ensures c.args.index (skeleton (open_type_of c.args.ty.now)) (open_term_of c.args.arg.now) (environment_of c.in_ok-environment.environment.now) c.in_ok-environment.ensures (open_type_of c.args.body.now) c.requires

pub returns-clause-ok : goal.returns-clause-ok
returns-clause-ok c = subst (λ X. IfOk c.normal_type.result (λ m. open_type_of m ≡ X)) (type_substituted c.new-store.result c.new-store.ensures c.args.index (skeleton (open_type_of c.args.ty.now)) (open_term_of c.args.arg.now) (environment_of c.in_ok-environment.environment.now) c.in_ok-environment.ensures (open_type_of c.args.body.now)) c.normal_type.ensures.ok

pub returns-clause-too_deep : goal.returns-clause-too_deep
returns-clause-too_deep c = λ f. subst (λ X. depth_limit < type_depth X) (type_substituted c.new-store.result c.new-store.ensures c.args.index (skeleton (open_type_of c.args.ty.now)) (open_term_of c.args.arg.now) (environment_of c.in_ok-environment.environment.now) c.in_ok-environment.ensures (open_type_of c.args.body.now)) (c.normal_type.ensures.too_deep f)
