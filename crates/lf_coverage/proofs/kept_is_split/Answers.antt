use Rattle.lf_coverage.proofs.ExamplesRefuted.{kept_is_split, kept_is_within, plus_run_is_at_candidate, successor_is_refuted}
use Rattle.lf_coverage.proofs.kept_is_split.Goals as goal

pub returns-clause-kept : goal.returns-clause-kept
returns-clause-kept c = kept_is_split

pub returns-clause-refuted : goal.returns-clause-refuted
returns-clause-refuted c = successor_is_refuted

pub returns-clause-run : goal.returns-clause-run
returns-clause-run c = plus_run_is_at_candidate

pub returns-clause-within : goal.returns-clause-within
returns-clause-within c = kept_is_within
