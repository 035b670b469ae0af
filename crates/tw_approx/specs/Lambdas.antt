-- Parts of a text that are to be gone over for lambdas at the level of types, the one to be gone over first in front.
use Rattle.std.specs.Prelude.{ℕ, ◌+◌, List, [], ◌∷◌, ◌++◌}
use Rattle.tw_approx.specs.Levels.{lambdas_in_term, lambdas_in_type}
use Rattle.tw_approx.specs.declared.lambdas.Part.{Part}
use Rattle.tw_lexer.specs.declared.place.Place.{Place}
use Rattle.tw_names.specs.Waiting.{size}
use Rattle.tw_parse.specs.View.{term_of}

abbrev pub lambdas_in : Part → List Place
lambdas_in (Part.Term t) = lambdas_in_term (term_of t.now)
lambdas_in (Part.Type t) = lambdas_in_type (term_of t.now)

abbrev pub lambdas_left : List Part → List Place
lambdas_left [] = []
lambdas_left (p ∷ ps) = lambdas_in p ++ lambdas_left ps

-- how many steps are left of a part, and of what waits
abbrev pub size_of : Part → ℕ
size_of (Part.Term t) = size (term_of t.now)
size_of (Part.Type t) = size (term_of t.now)

abbrev pub work : List Part → ℕ
work [] = 0
work (p ∷ ps) = size_of p + work ps
