-- The ruleset for functions between closed syntax and open.
use Rattle.tw_terms.proofs.Args.{types_and_skeletons}
use Rattle.tw_terms.proofs.OpenArgs.{open_types}

pub ruleset openings = (types_and_skeletons, open_types)
