-- What the leaves of a run show.
use Rattle.std.specs.Prelude.{List, [], ◌∷◌}
use Rattle.lf.specs.Entries.{Entry}
use Rattle.lf_unification.specs.Search.{Node}
use Rattle.tw_signature.specs.Goal.{Goal}
use Rattle.tw_query.specs.Runs.{IsShownAs}
use Rattle.tw_query.specs.declared.run.Leaf.{Leaf}

-- some node
abbrev pub IsShown : List Entry → Goal → Leaf → Type 0
IsShown es g x = (l : Node) × IsShownAs es g l x

-- each of them does
abbrev pub AreAllShown : List Entry → Goal → List Leaf → Type 0
AreAllShown es g [] = Unit {0}
AreAllShown es g (x ∷ xs) = IsShown es g x × AreAllShown es g xs
