use Rattle.lf_numbered.proofs.MeetsInstance.{shared_is_unifier, refuted_shares_none, shared_beside_is_unifier, refuted_beside_shares_none}
use Rattle.lf_numbered.proofs.shared_is_unifier.Goals as goal

pub returns-clause-unifier : goal.returns-clause-unifier
returns-clause-unifier c = shared_is_unifier

pub returns-clause-refuted : goal.returns-clause-refuted
returns-clause-refuted c = refuted_shares_none

pub returns-clause-beside : goal.returns-clause-beside
returns-clause-beside c = shared_beside_is_unifier

pub returns-clause-refuted_beside : goal.returns-clause-refuted_beside
returns-clause-refuted_beside c = refuted_beside_shares_none
