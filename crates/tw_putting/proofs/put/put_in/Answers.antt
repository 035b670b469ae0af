use Rattle.tw_terms.specs.OpenView.{open_term_of}
use Rattle.tw_putting.specs.View.{environment_of}
use Rattle.tw_putting.specs.declared.environment.Environment.TheVariants.{Outside}
use Rattle.tw_putting.proofs.Calls.{put_deep, put_result, put_walk, if_ok}
use Rattle.tw_putting.proofs.Environments.{environment_of-Outside}
use Rattle.tw_putting.proofs.put.put_in.Goals as goal

pub normal_term-requires : goal.normal_term-requires
normal_term-requires c = put_walk c.args.store.now.now c.args.binders (environment_of Outside) environment_of-Outside (open_term_of c.args.term.now) c.requires

pub returns-clause-ok : goal.returns-clause-ok
returns-clause-ok c = if_ok c.normal_term.result (λ r q. put_result c.args.store.now.now c.args.binders (environment_of Outside) environment_of-Outside (open_term_of c.args.term.now) (open_term_of r) c.requires q) c.normal_term.ensures.ok

pub returns-clause-too_deep : goal.returns-clause-too_deep
returns-clause-too_deep c = λ f. put_deep c.args.store.now.now c.args.binders (environment_of Outside) environment_of-Outside (open_term_of c.args.term.now) c.requires (c.normal_term.ensures.too_deep f)
