-- The leaves of a run, each by itself.
use Rattle.std.proofs.Common.{List, [], ◌∷◌}
use Rattle.lf.specs.Entries.{Entry}
use Rattle.lf_unification.specs.Search.{Node}
use Rattle.tw_signature.specs.Goal.{Goal}
use Rattle.tw_query.specs.Runs.{AreShownAs}
use Rattle.tw_query.specs.declared.run.Leaf.{Leaf}
use Rattle.tests_search.specs.Shown.{AreAllShown}

pub all_shown : (es : List Entry) (g : Goal) (ls : List Node) (xs : List Leaf) → AreShownAs es g ls xs → AreAllShown es g xs
all_shown es g [] [] h = tt
all_shown es g [] (x ∷ xs) h = absurd h
all_shown es g (l ∷ ls) [] h = absurd h
all_shown es g (l ∷ ls) (x ∷ xs) (w, h) = ((l, w), all_shown es g ls xs h)
