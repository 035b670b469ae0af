use Rattle.std.proofs.Common.{drop, map}
use Rattle.tw_terms.specs.OpenView.{open_args_of, open_type_of}
use Rattle.tw_putting.specs.View.{environment_of}
use Rattle.tw_putting.proofs.ReadingOff.{ReadOff}
use Rattle.tw_putting.proofs.telescope.read_off.Given as goal

-- those that were read off, and those of what is left
abbrev pub invariant-loop-arg : goal.invariant-loop-arg
invariant-loop-arg l = ReadOff (open_type_of l.fn.ty) (open_args_of l.args) (map open_type_of l.found.items) (environment_of l.environment) (open_type_of l.rest) (open_args_of (drop l.arg-index l.args))
