use Rattle.lf_numbered.proofs.EntryPatternsMatching.{numbered_instance_is_found, numbered_instance_matches as proved}
use Rattle.lf_numbered.proofs.numbered_instance_matches.Goals as goal

pub returns-clause-found : goal.returns-clause-found
returns-clause-found c = numbered_instance_is_found

pub returns-clause-matches : goal.returns-clause-matches
returns-clause-matches c = proved
