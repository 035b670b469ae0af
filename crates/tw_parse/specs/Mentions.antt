-- Terms that are to be looked through for a name.
use Rattle.std.specs.Prelude.{ℕ, ◌+◌, List, [], ◌∷◌, Bool, false, ◌||◌}
use Rattle.std.specs.Borrow.{Bor}
use Rattle.tw_parse.specs.Dropping.{weight}
use Rattle.tw_parse.specs.Queries.{mentions}
use Rattle.tw_parse.specs.View.{term_of}
use Rattle.tw_parse.specs.declared.term.ExtTerm.{ExtTerm}

-- the name stands in one of them
abbrev pub mentions_any : List ℕ → List (Bor ExtTerm) → Bool
mentions_any x [] = false
mentions_any x (t ∷ ts) = mentions x (term_of t.now) || mentions_any x ts

abbrev pub weight_of_all : List (Bor ExtTerm) → ℕ
weight_of_all [] = 0
weight_of_all (t ∷ ts) = weight t.now + weight_of_all ts
