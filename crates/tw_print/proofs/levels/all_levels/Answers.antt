use Rattle.std.proofs.Common.{sym}
use Rattle.tw_print.specs.Shown.{nesting_limit_is}
use Rattle.tw_print.proofs.levels.all_levels.Goals as goal

pub returns : goal.returns
returns c = sym nesting_limit_is
