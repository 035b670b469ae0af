use Rattle.lf_numbered.proofs.MeetsReadyLoose.{skeletons_are_not_enough, lengths_are_not_enough, identified_leaves_own_terms}
use Rattle.lf_numbered.proofs.skeletons_are_not_enough.Goals as goal

pub returns-clause-loose : goal.returns-clause-loose
returns-clause-loose c = skeletons_are_not_enough

pub returns-clause-own : goal.returns-clause-own
returns-clause-own c = identified_leaves_own_terms

pub returns-clause-lengths : goal.returns-clause-lengths
returns-clause-lengths c = lengths_are_not_enough
