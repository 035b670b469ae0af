-- The ruleset of this crate.
use Rattle.std.proofs.Common.{append_assoc}
use Rattle.std.proofs.lemmas.List.{map-append}
use Rattle.std.proofs.lemmas.Result.{IfOk-equal}
use Rattle.tw_terms.proofs.Args.{types_and_skeletons}
use Rattle.tw_written.proofs.Views.{written_views}
use Rattle.tw_written.proofs.Waiting.{waiting}

pub ruleset steps = (types_and_skeletons, written_views, waiting, append_assoc, IfOk-equal, map-append)
