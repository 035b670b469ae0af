-- The ruleset for functions over what is read and written.
use Rattle.tw_open.proofs.Views.{kind_views}
use Rattle.tw_parse.proofs.Views.{views}
use Rattle.tw_terms.proofs.Args.{types_and_skeletons}
use Rattle.tw_terms.proofs.OpenArgs.{open_types}

pub ruleset steps = (types_and_skeletons, open_types, kind_views, views)
