use Rattle.lf_numbered.proofs.EntryTermsExamples.{copy_matches_entry, pair_matches_entry, pair_is_instance}
use Rattle.lf_numbered.proofs.copy_matches_entry.Goals as goal

pub returns-clause-copy : goal.returns-clause-copy
returns-clause-copy c = copy_matches_entry

pub returns-clause-pair : goal.returns-clause-pair
returns-clause-pair c = pair_matches_entry

pub returns-clause-instance : goal.returns-clause-instance
returns-clause-instance c = pair_is_instance
