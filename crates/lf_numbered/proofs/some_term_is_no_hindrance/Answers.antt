use Rattle.lf_numbered.proofs.WorkedCallsSome.{some_term_is_no_hindrance}
use Rattle.lf_numbered.proofs.some_term_is_no_hindrance.Goals as goal

pub returns : goal.returns
returns c = some_term_is_no_hindrance
