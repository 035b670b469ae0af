-- Depth of terms, types and kinds: how many lambdas, roots, pis and atoms stand inside one another, at most.
use Rattle.std.specs.Prelude.{ℕ, zero, suc, max}
use Rattle.lf.specs.Syntax.{Term, Spine, lambda, root, nil, app, LfType, Kind, pi, atom, kind_pi, star}

-- A constant or variable alone has depth 1; a spine has the greatest depth of its arguments.
abbrev mutual
  pub depth : Term → ℕ
  depth (lambda M) = suc (depth M)
  depth (root h S) = suc (spine_depth S)

  pub spine_depth : Spine → ℕ
  spine_depth nil = zero
  spine_depth (app M S) = max (depth M) (spine_depth S)

-- a pi is one deeper than the deeper of its two parts
abbrev pub type_depth : LfType → ℕ
type_depth (pi A B) = suc (max (type_depth A) (type_depth B))
type_depth (atom a S) = suc (spine_depth S)

-- kinds alike; `type` has depth 1
abbrev pub kind_depth : Kind → ℕ
kind_depth (kind_pi A K) = suc (max (type_depth A) (kind_depth K))
kind_depth star = suc zero

-- the greatest depth of what a signature keeps
abbrev pub depth_limit : ℕ
depth_limit = 4096
