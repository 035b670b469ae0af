use Rattle.tw_terms.specs.OpenView.{open_spine_of}
use Rattle.tw_putting.specs.View.{environment_of}
use Rattle.tw_putting.specs.declared.environment.Environment.TheVariants.{Outside}
use Rattle.tw_putting.proofs.Calls.{put_spine_deep, put_spine_result, put_spine_walk, if_ok}
use Rattle.tw_putting.proofs.Environments.{environment_of-Outside}
use Rattle.tw_putting.proofs.put.put_in_spine.Goals as goal

pub normal_spine-requires : goal.normal_spine-requires
normal_spine-requires c = put_spine_walk c.args.store.now.now c.args.binders (environment_of Outside) environment_of-Outside (open_spine_of c.args.spine.now) c.requires

pub returns-clause-ok : goal.returns-clause-ok
returns-clause-ok c = if_ok c.normal_spine.result (λ r q. put_spine_result c.args.store.now.now c.args.binders (environment_of Outside) environment_of-Outside (open_spine_of c.args.spine.now) (open_spine_of r) c.requires q) c.normal_spine.ensures.ok

pub returns-clause-too_deep : goal.returns-clause-too_deep
returns-clause-too_deep c = λ f. put_spine_deep c.args.store.now.now c.args.binders (environment_of Outside) environment_of-Outside (open_spine_of c.args.spine.now) c.requires (c.normal_spine.ensures.too_deep f)
