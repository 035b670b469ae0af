use Rattle.tw_terms.specs.OpenView.{open_term_of}
use Rattle.tw_prune.proofs.Occurring.{none_in_result, occurs_in_result}
use Rattle.tw_prune.proofs.Options.{if_ok}
use Rattle.tw_prune.proofs.occurs.occurs_inside.Goals as goal

pub returns-clause-found : goal.returns-clause-found
returns-clause-found c = if_ok c.stands_inside.result _ _ (λ r e. occurs_in_result c.args.meta.0 c.args.inner (open_term_of c.args.term.now) r e) c.stands_inside.ensures

pub returns-clause-none : goal.returns-clause-none
returns-clause-none c = if_ok c.stands_inside.result _ _ (λ r e. none_in_result c.args.meta.0 c.args.inner (open_term_of c.args.term.now) r e) c.stands_inside.ensures
