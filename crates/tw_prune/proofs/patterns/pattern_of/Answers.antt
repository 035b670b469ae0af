use Rattle.std.specs.Prelude.{option_map}
use Rattle.tw_terms.specs.OpenView.{open_spine_of}
use Rattle.tw_prune.proofs.Meanings.{each_means, found_in_result}
use Rattle.tw_prune.proofs.Options.{if_ok}
use Rattle.tw_prune.proofs.patterns.pattern_of.Goals as goal

pub returns-clause-found : goal.returns-clause-found
returns-clause-found c = if_ok c.distinct_variables.result _ _ (λ r e. found_in_result c.args.inner (open_spine_of c.args.spine.now) r e) c.distinct_variables.ensures

pub returns-clause-each : goal.returns-clause-each
returns-clause-each c = if_ok c.distinct_variables.result _ _ (λ r e. each_means c.args.inner (open_spine_of c.args.spine.now) (option_map (λ xs. xs.items) r) e) c.distinct_variables.ensures
