-- The worked runs of copying, and of two block variables that may be one instance, as answers by number.
use Rattle.std.specs.Prelude.{ℕ, [], ◌∷◌, Bool}
use Rattle.lf_totality.specs.Examples.{Copying, copy_heads}
use Rattle.lf_coverage.specs.ExamplesCopying.{copy_goal, copy_worlds}
use Rattle.lf_coverage.specs.ExamplesTwins.{Twins, twin_goal, twin_head, twin_worlds}
use Rattle.lf_numbered.specs.NumberedCalls.{NumberedCoverIs, all_covered}
use Rattle.lf_numbered.specs.Numbering.{numbered}

-- The goal check X Y Z is covered by the entry u : check x x (alike x). Its run reaches check b.x c.x Z, whose split has no case; and where b and c are one
-- instance, what this case holds check b.x b.x Z holds too. The goal cp X _ is covered by cp-lam, cp-app and the entry u of {x:exp} {u:cp x x}.
abbrev pub WorkedRunsAreAnswers : Type 0
WorkedRunsAreAnswers = (below : ℕ → ℕ → Bool) → NumberedCoverIs Twins 3 twin_worlds below (twin_head ∷ []) (numbered 3 twin_goal) all_covered × NumberedCoverIs Copying 4 copy_worlds below copy_heads (numbered 4 copy_goal) all_covered
