use Rattle.lf.specs.Depth.{type_depth}
use Rattle.tw_terms.specs.OpenView.{open_type_of}
use Rattle.tests_ready.proofs.types.+is_type.Given as goal

abbrev pub decreases-is_type : goal.decreases-is_type
decreases-is_type l = type_depth (open_type_of l.ty.now)
