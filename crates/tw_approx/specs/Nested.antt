-- Parts of a text that wait: to be counted, or to be searched for annotations.
use Rattle.std.specs.Prelude.{ℕ, ◌+◌, List, [], ◌∷◌, Bool, true, ◌&&◌, nat_le}
use Rattle.lf.specs.Depth.{depth_limit}
use Rattle.lf.specs.Entries.{Entry}
use Rattle.tw_approx.specs.Nesting.{annotation_depth, written_depth}
use Rattle.tw_approx.specs.declared.waiting.Waiting.{Waiting}
use Rattle.tw_names.specs.Waiting.{size}
use Rattle.tw_parse.specs.View.{term_of}

-- a part nests no deeper than it may, or its annotations don't
abbrev pub is_within : List Entry → Waiting → Bool
is_within es (Waiting.Counted t levels) = nat_le (written_depth es (term_of t.now)) levels
is_within es (Waiting.Searched t) = nat_le (annotation_depth es (term_of t.now)) depth_limit

abbrev pub all_within : List Entry → List Waiting → Bool
all_within es [] = true
all_within es (w ∷ ws) = is_within es w && all_within es ws

-- how many steps are left of a part, and of what waits
abbrev pub steps : Waiting → ℕ
steps (Waiting.Counted t levels) = size (term_of t.now)
steps (Waiting.Searched t) = size (term_of t.now)

abbrev pub work : List Waiting → ℕ
work [] = 0
work (w ∷ ws) = steps w + work ws
