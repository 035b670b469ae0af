use Rattle.lf_numbered.proofs.NumberedTuplesExamples.{copies_are_apart}
use Rattle.lf_numbered.proofs.copies_are_apart.Goals as goal

pub returns : goal.returns
returns c = copies_are_apart
