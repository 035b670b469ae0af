-- The arguments that stay where a metavariable loses one.
use Rattle.std.specs.Prelude.{ℕ, ◌-◌, nat_eq, if◌then◌else◌}
use Rattle.lf.specs.Eta.{arity, eta_arguments}
use Rattle.lf.specs.Syntax.{LfType, Spine, app, atom, nil, pi, skeleton}
use Rattle.lf_unification.specs.Patterns.{eta_variable}

-- the variables of the lambdas of a term of the type, without that of the argument at the place, each eta-long
abbrev pub kept_arguments : ℕ → LfType → Spine
kept_arguments place (atom a S) = nil
kept_arguments place (pi A B) = if nat_eq place 0 then eta_arguments (skeleton B) else app (eta_variable (skeleton A) (arity (skeleton B))) (kept_arguments (place - 1) B)
