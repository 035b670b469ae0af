-- The rulesets.
use Rattle.tw_parse.proofs.Views.{views}
use Rattle.tw_terms.proofs.Args.{types_and_skeletons}

pub ruleset written = (types_and_skeletons, views)
