use Rattle.lf_numbered.proofs.OwnTerms.{own_terms_are_kept, own_terms_stay}
use Rattle.lf_numbered.proofs.own_terms_are_kept.Goals as goal

pub returns-clause-put : goal.returns-clause-put
returns-clause-put c = own_terms_are_kept

pub returns-clause-behind : goal.returns-clause-behind
returns-clause-behind c = own_terms_stay
