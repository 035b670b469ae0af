-- The ruleset for functions over open syntax and kinds.
use Rattle.tw_terms.proofs.Args.{types_and_skeletons}
use Rattle.tw_terms.proofs.OpenArgs.{open_types}
use Rattle.tw_open.proofs.Expanding.{closed_step}
use Rattle.tw_open.proofs.Views.{kind_views}

pub ruleset steps = (types_and_skeletons, open_types, kind_views, closed_step)
