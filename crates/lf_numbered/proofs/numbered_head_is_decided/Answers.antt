use Rattle.lf_numbered.proofs.EntryTermsHeads.{head_match_is_numbered_instance}
use Rattle.lf_numbered.proofs.EntryTermsDecided.{numbered_head_is_decided}
use Rattle.lf_numbered.proofs.numbered_head_is_decided.Goals as goal

pub returns-clause-instance : goal.returns-clause-instance
returns-clause-instance c = head_match_is_numbered_instance

pub returns-clause-decided : goal.returns-clause-decided
returns-clause-decided c = numbered_head_is_decided
