-- Types and kinds that have no arguments in them, so that nothing can be put into them.
use Rattle.lf.specs.Syntax.{Kind, LfType, app, atom, kind_pi, nil, pi, star}

-- every atom of the type is a family alone: `(exp -> exp) -> exp` is so, and `vector N -> exp` isn't
abbrev pub IsPlainType : LfType → Type 0
IsPlainType (pi A B) = IsPlainType A × IsPlainType B
IsPlainType (atom a nil) = Unit {0}
IsPlainType (atom a (app M S)) = ⊥

-- each domain of the kind is so: that of `append : list -> list -> list -> type` is
abbrev pub IsPlain : Kind → Type 0
IsPlain (kind_pi A K) = IsPlainType A × IsPlain K
IsPlain star = Unit {0}
