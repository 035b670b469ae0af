-- What the program holds of a search, and what a step of a round comes to. The proofs need these; the definitions of rounds don't speak of them.
use Rattle.std.specs.Prelude.{◌≡◌, ℕ, ◌-◌, ◌<◌, ◌≤◌, List, ◌++◌, length, Option, None, Some}
use Rattle.lf.specs.Entries.{Entry}
use Rattle.lf_search.specs.Bounded.{answers_among, end_by}
use Rattle.tw_print.specs.Names.{Scene}
use Rattle.tw_search.specs.Standing.{Stands, tries_of}
use Rattle.tw_signature.specs.Goal.{Goal, goal_of}
use Rattle.tw_top.specs.Lines.{ended}
use Rattle.tw_top.specs.Rounds.{Ending, Rounds, Standing, deep, over, paused}
use Rattle.tw_top.specs.declared.asking.Asking.{Asking}
use Rattle.tw_top.specs.declared.pause.Pause.{Pause}
use Rattle.tw_top.specs.declared.pause.Pause.TheVariants as pauses

-- the goal whose answers are asked for
abbrev pub asked : Asking → Goal
asked a = goal_of a.goal

-- The program's search stands here: at this agenda, behind these leaves and tries; it has counted its answers, and knows whether a leaf was left over.
pub record Holds (es : List Entry) (a : Asking) (s : Standing) : Type 0 where
  pub stands : Stands es (asked a) a.search s.leaves s.agenda
  pub tries : tries_of a.search ≡ s.tries
  pub answers : a.answers ≡ answers_among s.leaves
  pub left_over : ended a.left_over ≡ end_by s.leaves

-- what comes behind a round
abbrev pub IsPause : List Entry → Asking → Pause → Ending → Type 0
IsPause es a pauses.More (paused s) = Holds es a s
IsPause es a pauses.More over = ⊥
IsPause es a pauses.More deep = ⊥
IsPause es a pauses.Over (paused s) = ⊥
IsPause es a pauses.Over over = Unit {0}
IsPause es a pauses.Over deep = ⊥
IsPause es a pauses.TooDeep (paused s) = ⊥
IsPause es a pauses.TooDeep over = ⊥
IsPause es a pauses.TooDeep deep = Unit {0}

-- a round from here comes to these lines, and what is behind them
abbrev pub ComesTo : List Entry → Scene → Goal → ℕ → Standing → Asking → List ℕ → Pause → Type 0
ComesTo es scene g budget s a lines pause = (end : Ending) × Rounds es scene g budget s lines end × IsPause es a pause end

-- the round went on with these lines, behind a leaf that is left over: whatever ends it from there ends it from here
pub record WentOn (es : List Entry) (scene : Scene) (g : Goal) (last : ℕ) (s : Standing) (a : Asking) (lines : List ℕ) : Type 0 where
  pub now : Standing
  pub holds : Holds es a now
  pub within : now.tries ≤ last
  pub on : (rest : List ℕ) (end : Ending) → Rounds es scene g (last - now.tries) now rest end → Rounds es scene g (last - s.tries) s (lines ++ rest) end

-- what a step adds to the text of a round that may go on up to so many tries
abbrev pub Adds : List Entry → Scene → Goal → ℕ → Standing → Asking → List ℕ → List ℕ → Option Pause → Type 0
Adds es scene g last s a old new None = (lines : List ℕ) × (new ≡ old ++ lines) × (0 < length lines) × WentOn es scene g last s a lines
Adds es scene g last s a old new (Some pause) = (lines : List ℕ) × (new ≡ old ++ lines) × ComesTo es scene g (last - s.tries) s a lines pause
