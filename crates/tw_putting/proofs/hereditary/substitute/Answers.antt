use Rattle.std.proofs.Common.{◌≡◌, IfOk, subst}
use Rattle.lf.specs.Depth.{depth_limit}
use Rattle.lf.specs.Syntax.{skeleton}
use Rattle.tw_terms.specs.OpenView.{open_term_of, open_type_of}
use Rattle.tw_putting.specs.View.{environment_of}
use Rattle.tw_putting.proofs.Calls.{deep_term, term_substituted, term_walk}
use Rattle.tw_putting.proofs.hereditary.substitute.Goals as goal

pub normal_term-requires : goal.normal_term-requires
normal_term-requires c = term_walk c.new-store.result c.new-store.ensures c.args.index (skeleton (open_type_of c.args.ty.now)) (open_term_of c.args.arg.now) (environment_of c.in_ok-environment.environment.now) c.in_ok-environment.ensures (open_term_of c.args.body.now) c.requires

pub returns-clause-ok : goal.returns-clause-ok
returns-clause-ok c = subst (λ X. IfOk c.normal_term.result (λ m. open_term_of m ≡ X)) (term_substituted c.new-store.result c.new-store.ensures c.args.index (skeleton (open_type_of c.args.ty.now)) (open_term_of c.args.arg.now) (environment_of c.in_ok-environment.environment.now) c.in_ok-environment.ensures (open_term_of c.args.body.now)) c.normal_term.ensures.ok

pub returns-clause-too_deep : goal.returns-clause-too_deep
returns-clause-too_deep c = λ f. deep_term c.new-store.result c.new-store.ensures c.args.index (skeleton (open_type_of c.args.ty.now)) (open_term_of c.args.arg.now) (environment_of c.in_ok-environment.environment.now) c.in_ok-environment.ensures depth_limit (open_term_of c.args.body.now) c.requires (c.normal_term.ensures.too_deep f)
