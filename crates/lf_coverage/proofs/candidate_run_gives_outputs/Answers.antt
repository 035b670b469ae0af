use Rattle.lf_coverage.proofs.CoveredOutputRuns.{output_goal_is_beside, output_places_are_below, candidate_run_gives_outputs, candidate_run_gives_own_outputs, found_run_gives_outputs}
use Rattle.lf_coverage.proofs.candidate_run_gives_outputs.Goals as goal

pub returns-clause-beside : goal.returns-clause-beside
returns-clause-beside c = output_goal_is_beside

pub returns-clause-places : goal.returns-clause-places
returns-clause-places c = output_places_are_below

pub returns-clause-constant : goal.returns-clause-constant
returns-clause-constant c = candidate_run_gives_outputs

pub returns-clause-own : goal.returns-clause-own
returns-clause-own c = candidate_run_gives_own_outputs

pub returns-clause-found : goal.returns-clause-found
returns-clause-found c = found_run_gives_outputs
