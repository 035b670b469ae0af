-- Chains of arrows.
use Rattle.std.specs.Prelude.{suc, List, [], ◌∷◌}
use Rattle.lf.specs.Syntax.{Kind, LfType, kind_pi, pi, rename_kind, weaken}

-- arrows from these types to B: the variable of none is in scope in what follows
abbrev pub arrows_to : List LfType → LfType → LfType
arrows_to [] B = B
arrows_to (A ∷ As) B = pi A (weaken (arrows_to As B))

-- and to a kind
abbrev pub kind_arrows_to : List LfType → Kind → Kind
kind_arrows_to [] K = K
kind_arrows_to (A ∷ As) K = kind_pi A (rename_kind suc (kind_arrows_to As K))
