use Rattle.tw_terms.specs.OpenView.{open_type_of}
use Rattle.tw_putting.specs.View.{environment_of}
use Rattle.tw_putting.specs.declared.environment.Environment.TheVariants.{Outside}
use Rattle.tw_putting.proofs.Calls.{put_type_deep, put_type_result, put_type_walk, if_ok}
use Rattle.tw_putting.proofs.Environments.{environment_of-Outside}
use Rattle.tw_putting.proofs.put.put_in_type.Goals as goal

pub normal_type-requires : goal.normal_type-requires
normal_type-requires c = put_type_walk c.args.store.now.now c.args.binders (environment_of Outside) environment_of-Outside (open_type_of c.args.ty.now) c.requires

pub returns-clause-ok : goal.returns-clause-ok
returns-clause-ok c = if_ok c.normal_type.result (λ r q. put_type_result c.args.store.now.now c.args.binders (environment_of Outside) environment_of-Outside (open_type_of c.args.ty.now) (open_type_of r) c.requires q) c.normal_type.ensures.ok

pub returns-clause-too_deep : goal.returns-clause-too_deep
returns-clause-too_deep c = λ f. put_type_deep c.args.store.now.now c.args.binders (environment_of Outside) environment_of-Outside (open_type_of c.args.ty.now) c.requires (c.normal_type.ensures.too_deep f)
