-- The rulesets.
use Rattle.tw_terms.proofs.Args.{types_and_skeletons}

pub ruleset kernel = (types_and_skeletons)
