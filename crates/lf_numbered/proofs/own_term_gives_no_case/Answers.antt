use Rattle.lf_numbered.proofs.WorkedCallsEntries.{own_term_gives_no_case}
use Rattle.lf_numbered.proofs.own_term_gives_no_case.Goals as goal

pub returns : goal.returns
returns c = own_term_gives_no_case
