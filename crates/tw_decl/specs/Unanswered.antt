-- Why a search isn't made: how its goal isn't asked, or what its run comes to.
use Rattle.std.specs.Prelude.{◌≡◌, ◌≢◌, ◌⊎◌, List, ℕ, codes, None, Some}
use Rattle.lf.specs.Entries.{Entry, signature_of}
use Rattle.lf_search.specs.Bounded as bounded
use Rattle.lf_search.specs.Bounded.{Bound}
use Rattle.tw_lexer.specs.declared.place.Place.{Place}
use Rattle.tw_metas.specs.declared.left.LeftEquation.{LeftEquation}
use Rattle.tw_parse.specs.Queries.{Query}
use Rattle.tw_parse.specs.Syntax.{Term}
use Rattle.tw_parse_queries.specs.declared.search.ExtBound.{ExtBound}
use Rattle.tw_parse_queries.specs.declared.search.ExtBound.TheVariants.{Number}
use Rattle.tw_query.specs.Runs.{IsOutOf, MeetsDeep, answers_in}
use Rattle.tw_query.specs.declared.run.Leaf.{Leaf}
use Rattle.tw_query.specs.declared.run.QueryEnd.{QueryEnd}
use Rattle.tw_query.specs.declared.run.QueryEnd.TheVariants as ends
use Rattle.tw_recon.specs.Causes.{BodyReachesDeep}
use Rattle.tw_recon.specs.Queries.{HasGoalCause}
use Rattle.tw_recon.specs.declared.fault.ReconFault.{ReconFault}
use Rattle.tw_recon.specs.declared.fault.ReconFault.TheVariants as reconstructions
use Rattle.tw_search.specs.declared.answer.Answer.{Answer}
use Rattle.tw_signature.specs.Goal.{Goal}
use Rattle.tw_decl.specs.Equations.{left_text}
use Rattle.tw_decl.specs.Searching.{IsAsked, Runs, bound_of, first_answer, first_left}
use Rattle.tw_decl.specs.Solutions.{IsSolution, solve_query}
use Rattle.tw_decl.specs.View.{View}
use Rattle.tw_decl.specs.declared.refusal.Refusal.{Refusal}
use Rattle.tw_decl.specs.declared.refusal.Refusal.TheVariants as refusals

-- the fault of a goal's reconstruction
abbrev pub GoalFails : View → Term → ReconFault → Type 0
GoalFails v A fault = HasGoalCause v.signature A fault

-- a definition or a lambda stands at the level of types
abbrev pub IsGoalOfTypes : View → Term → Place → Place → Type 0
IsGoalOfTypes v A first place = (GoalFails v A (reconstructions.TypeLevel None) × (place ≡ first)) ⊎ GoalFails v A (reconstructions.TypeLevel (Some place))

-- an equation with this text is left of the goal
abbrev pub IsLeftOfGoal : View → Term → List ℕ → Type 0
IsLeftOfGoal v A text = (left : LeftEquation) × GoalFails v A (reconstructions.Leftover left) × (text ≡ left_text v left)

-- why this goal can't be asked, in a declaration whose first token stands at this place: how it isn't completed
abbrev pub IsNotAsked : View → Term → Place → Refusal → Type 0
IsNotAsked v A first refusals.Memory = Unit {0}
IsNotAsked v A first (refusals.Unknown place name) = GoalFails v A (reconstructions.Unknown name place)
IsNotAsked v A first (refusals.Unsupported place shown) = IsGoalOfTypes v A first place × (shown ≡ codes "type")
IsNotAsked v A first (refusals.Loose place) = GoalFails v A reconstructions.Loose × (place ≡ first)
IsNotAsked v A first (refusals.Mismatch place) = GoalFails v A reconstructions.Mismatch × (place ≡ first)
IsNotAsked v A first (refusals.Leftover place text) = IsLeftOfGoal v A text.items × (place ≡ first)
IsNotAsked v A first (refusals.TooDeep place) = GoalFails v A reconstructions.TooDeep × (place ≡ first)
IsNotAsked v A first _ = ⊥

-- why a goal has no run: the budget's tries were made and one more is due, or its search meets something deep
abbrev pub HasNoRun : View → Goal → Bound → Place → Refusal → Type 0
HasNoRun v g bound first refusals.Memory = Unit {0}
HasNoRun v g bound first (refusals.TooDeep place) = MeetsDeep v.signature g bound v.parameters.steps × (place ≡ first)
HasNoRun v g bound first (refusals.Budget place tries) = IsOutOf v.signature g bound v.parameters.steps × (tries ≡ v.parameters.steps) × (place ≡ first)
HasNoRun v g bound first _ = ⊥

abbrev pub RunFails : View → Query → Bound → Place → Refusal → Type 0
RunFails v q bound first refusal = (g : Goal) × IsAsked v.signature q g × HasNoRun v g bound first refusal

-- The search came to its end with a leaf left over, and the first equation that is left has this text.
pub record LeavesOver (v : View) (q : Query) (bound : Bound) (text : List ℕ) : Type 0 where
  pub goal : Goal
  pub leaves : List Leaf
  pub tries : ℕ
  pub runs : Runs v q bound goal leaves ends.Incomplete tries
  pub left : LeftEquation
  pub first : first_left leaves ≡ Some left
  pub shows : text ≡ left_text v left

-- So many answers were found, and not as many as are expected; and no leaf was left over at the end of the search.
pub record Miscounts (v : View) (e t : ExtBound) (q : Query) (found expected : ℕ) : Type 0 where
  pub is_number : e ≡ Number expected
  pub goal : Goal
  pub leaves : List Leaf
  pub end : QueryEnd
  pub tries : ℕ
  pub runs : Runs v q (bound_of t) goal leaves end tries
  pub none_left : end ≢ ends.Incomplete
  pub counts : found ≡ answers_in leaves
  pub differs : found ≢ expected

-- Why a query isn't answered: its goal can't be asked; its search doesn't end; or it ends with a leaf left over or another number of answers, where a number is expected.
abbrev pub IsNotAnswered : View → ExtBound → ExtBound → Query → Place → Refusal → Type 0
IsNotAnswered v e t q first refusals.Memory = Unit {0}
IsNotAnswered v e t q first (refusals.Leftover place text) = IsNotAsked v q.goal first (refusals.Leftover place text) ⊎ (((n : ℕ) × (e ≡ Number n) × LeavesOver v q (bound_of t) text.items) × (place ≡ first))
IsNotAnswered v e t q first (refusals.TooDeep place) = IsNotAsked v q.goal first (refusals.TooDeep place) ⊎ RunFails v q (bound_of t) first (refusals.TooDeep place)
IsNotAnswered v e t q first (refusals.Count place found expected) = Miscounts v e t q found expected × (place ≡ first)
IsNotAnswered v e t q first (refusals.Budget place tries) = RunFails v q (bound_of t) first (refusals.Budget place tries)
IsNotAnswered v e t q first refusal = IsNotAsked v q.goal first refusal

-- the search came to its end without an answer, and no leaf was left over
pub record HasNoAnswer (v : View) (c : List ℕ) (A : Term) : Type 0 where
  pub goal : Goal
  pub leaves : List Leaf
  pub tries : ℕ
  pub runs : Runs v (solve_query c A) (bounded.number 1) goal leaves ends.Exhausted tries

-- the definition that the first answer gives is deep
pub record IsDeepSolution (v : View) (c : List ℕ) (A : Term) : Type 0 where
  pub goal : Goal
  pub leaves : List Leaf
  pub end : QueryEnd
  pub tries : ℕ
  pub runs : Runs v (solve_query c A) (bounded.number 1) goal leaves end tries
  pub answer : Answer
  pub is_first : first_answer leaves ≡ Some answer
  pub entry : Entry
  pub solution : IsSolution c A goal answer entry
  pub deep : BodyReachesDeep (signature_of v.signature) entry.body

-- Why `%solve` keeps nothing: its goal can't be asked; its search doesn't end, or ends without an answer; or the definition is deep.
abbrev pub IsNotSolved : View → List ℕ → Term → Place → Refusal → Type 0
IsNotSolved v c A first refusals.Memory = Unit {0}
IsNotSolved v c A first (refusals.Leftover place text) = IsNotAsked v A first (refusals.Leftover place text) ⊎ (LeavesOver v (solve_query c A) (bounded.number 1) text.items × (place ≡ first))
IsNotSolved v c A first (refusals.TooDeep place) =
    IsNotAsked v A first (refusals.TooDeep place) ⊎ RunFails v (solve_query c A) (bounded.number 1) first (refusals.TooDeep place) ⊎ (IsDeepSolution v c A × (place ≡ first))
IsNotSolved v c A first (refusals.Budget place tries) = RunFails v (solve_query c A) (bounded.number 1) first (refusals.Budget place tries)
IsNotSolved v c A first (refusals.NoAnswer place) = HasNoAnswer v c A × (place ≡ first)
IsNotSolved v c A first refusal = IsNotAsked v A first refusal
