use Rattle.std.proofs.Common.{◌≡◌, drop, map}
use Rattle.tw_equation.specs.Text.{next_one}
use Rattle.tw_metas.specs.Named.{shown_type_of}
use Rattle.tw_equation.proofs.laid.next_one.Given as goal

abbrev pub invariant-loop-place : goal.invariant-loop-place
invariant-loop-place l = next_one l.positions l.place (map shown_type_of (drop l.place l.metas)) ≡ next_one l.positions 0 (map shown_type_of l.metas)
