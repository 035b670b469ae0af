use Rattle.lf_numbered.proofs.NumberedCandidatesGoals.{numbered_candidate_run_covers_heads, numbered_candidate_run_covers_inputs, numbered_candidate_run_covers_outputs, numbered_candidate_run_gives_outputs}
use Rattle.lf_numbered.proofs.NumberedCandidatesRuns.{numbered_candidate_run_covers, numbered_strategy_run_covers}
use Rattle.lf_numbered.proofs.NumberedCandidatesSplits.{first_is_candidate_by_number}
use Rattle.lf_numbered.proofs.numbered_candidate_run_covers.Goals as goal

pub returns-clause-first : goal.returns-clause-first
returns-clause-first c = first_is_candidate_by_number

pub returns-clause-run : goal.returns-clause-run
returns-clause-run c = numbered_candidate_run_covers

pub returns-clause-strategy : goal.returns-clause-strategy
returns-clause-strategy c = numbered_strategy_run_covers

pub returns-clause-inputs : goal.returns-clause-inputs
returns-clause-inputs c = numbered_candidate_run_covers_inputs

pub returns-clause-heads : goal.returns-clause-heads
returns-clause-heads c = numbered_candidate_run_covers_heads

pub returns-clause-outputs : goal.returns-clause-outputs
returns-clause-outputs c = numbered_candidate_run_covers_outputs

pub returns-clause-gives : goal.returns-clause-gives
returns-clause-gives c = numbered_candidate_run_gives_outputs
