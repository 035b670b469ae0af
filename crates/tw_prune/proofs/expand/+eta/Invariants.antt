use Rattle.std.proofs.Common.{◌*◌, ◌+◌}
use Rattle.lf.specs.Depth.{type_depth}
use Rattle.tw_terms.specs.OpenView.{open_type_of}
use Rattle.tw_prune.proofs.expand.+eta.Given as goal

abbrev pub decreases-expand_variable : goal.decreases-expand_variable
decreases-expand_variable l = 2 * type_depth (open_type_of l.ty.now) + 1

abbrev pub decreases-push_newest : goal.decreases-push_newest
decreases-push_newest l = 2 * type_depth (open_type_of l.ty.now)
