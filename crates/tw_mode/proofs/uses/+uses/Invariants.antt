use Rattle.std.proofs.Common.{drop}
use Rattle.std.specs.Prelude.{◌↔◌}
use Rattle.lf.specs.Variables.{UsesSpine}
use Rattle.tw_terms.specs.View.{args_of}
use Rattle.tw_mode.specs.Allowed.{allowed_in}
use Rattle.tw_mode.proofs.uses.+uses.Given as goal

abbrev pub invariant-uses_spine-loop-arg : goal.invariant-uses_spine-loop-arg
invariant-uses_spine-loop-arg l = UsesSpine (allowed_in l.allowed) (args_of (drop l.arg-index l.arg-items)) ↔ UsesSpine (allowed_in l.allowed) (args_of l.arg-items)
