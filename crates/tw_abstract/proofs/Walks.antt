-- The ruleset for the walks.
use Rattle.tw_terms.proofs.Args.{types_and_skeletons}
use Rattle.tw_terms.proofs.OpenArgs.{open_types}

pub ruleset walks = (types_and_skeletons, open_types)
