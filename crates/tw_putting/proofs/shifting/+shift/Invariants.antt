use Rattle.std.proofs.Common.{◌≡◌, map, take}
use Rattle.lf.specs.AtOnce.{lift_renaming_by, shift_by}
use Rattle.lf.specs.Syntax.{rename}
use Rattle.tw_terms.specs.OpenView.{open_term_of}
use Rattle.tw_putting.proofs.shifting.+shift.Given as goal

-- the arguments so far
abbrev pub invariant-shift_spine-loop-arg : goal.invariant-shift_spine-loop-arg
invariant-shift_spine-loop-arg l = map open_term_of l.args.items ≡ map (λ t. rename (lift_renaming_by l.from (shift_by l.by)) (open_term_of t)) (take l.arg-index l.arg-items)
