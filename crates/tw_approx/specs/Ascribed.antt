-- What types or kinds are written for, one behind the other.
use Rattle.std.specs.Prelude.{List, [], ◌∷◌}
use Rattle.tw_parse.specs.Syntax.{Term, ascription}

-- a term with its types, or a family with its kinds, the last one first
abbrev pub ascribed_to : Term → List Term → Term
ascribed_to M [] = M
ascribed_to M (A ∷ As) = ascription (ascribed_to M As) A
