-- Lists.
use Rattle.std.specs.Prelude.{List, [], ◌∷◌}

-- the first list, then the second
abbrev pub followed : {A : Type 0} → List A → List A → List A
followed [] ys = ys
followed (x ∷ xs) ys = x ∷ followed xs ys
