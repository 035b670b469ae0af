-- Worked: matching by terms decides cases of runs by number.
use Rattle.std.specs.Prelude.{ℕ, [], ◌∷◌, Bool, true}
use Rattle.lf.specs.Syntax.{kind_pi, star}
use Rattle.lf_cases.specs.Case.{input_goal}
use Rattle.lf_totality.specs.Examples.{exp}
use Rattle.lf_numbered.specs.EntryPatterns.{IsInstanceOfPattern}
use Rattle.lf_numbered.specs.EntryPatternsExamples.{Laters, answered_case, asked, asked_goal, later_worlds}
use Rattle.lf_numbered.specs.EntryTermsExamples.{Pairs, open_head, pair_block}
use Rattle.lf_numbered.specs.NewBlock.{with_new_block}
use Rattle.lf_numbered.specs.NumberedCase.{NumberedCase}
use Rattle.lf_numbered.specs.Numbering.{numbered}
use Rattle.lf_numbered.specs.OwnStores.{ComesByNumbers}

-- q b.x b.w, which comes by a split from the goal q N D of the outputs of v's subgoal q n D, is by terms, and so by the law, an instance of it.
abbrev pub AnsweredIsDecided : Type 0
AnsweredIsDecided = ((below : ℕ → ℕ → Bool) → ComesByNumbers Laters later_worlds 4 below asked_goal answered_case) × IsInstanceOfPattern Laters 4 answered_case asked

-- The goal of inputs q X Y in the worlds of some {n:exp} block {y:exp} {v:q n y} {w:{Y:exp} q Y y}
abbrev pub pair_goal : NumberedCase
pair_goal = numbered 2 (input_goal 1 (true ∷ true ∷ []) (kind_pi exp (kind_pi exp star)))

-- It has no block variable, so it is no instance of the entry w; and with a new one it isn't either, since Y isn't b.y.
abbrev pub PairGoalIsDecided : Type 0
PairGoalIsDecided = (IsInstanceOfPattern Pairs 2 pair_goal open_head → ⊥) × (IsInstanceOfPattern Pairs 2 (with_new_block pair_block pair_goal) open_head → ⊥)
