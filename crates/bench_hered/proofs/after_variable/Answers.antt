use Rattle.std.proofs.Common.{arith}
use Rattle.tw_terms.proofs.Args.{skeletons}
use Rattle.tw_terms.proofs.Views.{term_of-Root}
use Rattle.bench_hered.proofs.after_variable.Goals as goal

pub returns : goal.returns
returns c = rw (term_of-Root) (grind (arith, skeletons))
