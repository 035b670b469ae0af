use Rattle.std.proofs.Common.{◌≡◌, ◌++◌, map, take}
use Rattle.tw_equation.specs.Text.{given_names}
use Rattle.tw_equation.proofs.naming.given_names.Given as goal

abbrev pub invariant-loop-place : goal.invariant-loop-place
invariant-loop-place l = l.given.items ++ given_names l.names (map (λ m. m.0) (take l.place l.order)) ≡ given_names l.names (map (λ m. m.0) l.order)
