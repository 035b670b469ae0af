-- The search of a query with a bound on its answers and a budget of tries.
use Rattle.std.specs.Prelude.{◌≡◌, ℕ, ◌+◌, ◌≤◌, ◌<◌, List, [], ◌∷◌, length}
use Rattle.lf.specs.Entries.{Entry, signature_of}
use Rattle.lf.specs.Syntax.{LfType}
use Rattle.lf.specs.Typing.{Signature}
use Rattle.lf_unification.specs.Query.{Query, Searches, StopsAtAnswer, start}
use Rattle.lf_unification.specs.Search.{IsOutOfBudget, Node, Pending, TryIsDue, answer_leaves, at_node}
use Rattle.lf_unification.specs.Unifiers.{Equation}
use Rattle.lf_search.specs.Coming.{IsDeepNext}

-- how many answers are asked for; of a star there is no bound
pub data Bound : Type 0 where
  star : Bound
  number : ℕ → Bound

-- these are fewer answers than are asked for
abbrev pub FewerThan : Bound → ℕ → Type 0
FewerThan star k = Unit {0}
FewerThan (number t) k = k < t

-- these are as many
abbrev pub AsManyAs : Bound → ℕ → Type 0
AsManyAs star k = ⊥
AsManyAs (number t) k = k ≡ t

-- How a search ends within its budget: stopped at its bound, or at its end, where each leaf was an answer or one was left over.
pub data QueryEnd : Type 0 where
  stopped : QueryEnd
  exhausted : QueryEnd
  incomplete : QueryEnd

-- a leaf with equations is left over
abbrev pub unless_left : List Equation → QueryEnd → QueryEnd
unless_left [] end = end
unless_left (e ∷ es) end = incomplete

-- the end that a search with these leaves has
abbrev pub end_by : List Node → QueryEnd
end_by [] = exhausted
end_by (l ∷ ls) = unless_left l.store.equations (end_by ls)

-- how many of the leaves are answers
abbrev pub answers_among : List Node → ℕ
answers_among leaves = length (answer_leaves leaves)

-- The run of a query within its budget, with its leaves, its end and its tries: it stops at the last answer that is asked for, and takes none
-- behind it; or it comes to its end with fewer answers.
pub data QueryRuns (entries : List Entry) (q : Query) (budget : ℕ) : Bound → List Node → QueryEnd → ℕ → Type 0 where
  stops : {t : ℕ} {leaves : List Node} {tries : ℕ} →
      StopsAtAnswer entries q t leaves tries → tries ≤ budget → QueryRuns entries q budget (number t) leaves stopped tries
  ends : {bound : Bound} {leaves : List Node} {tries : ℕ} →
      Searches entries q leaves tries [] → tries ≤ budget → FewerThan bound (answers_among leaves) → QueryRuns entries q budget bound leaves (end_by leaves) tries

-- The run of a query is out of budget: fewer answers were found than are asked for, the tries were made, and one more is due.
pub record RunsOut (entries : List Entry) (q : Query) (budget : ℕ) (bound : Bound) (leaves : List Node) : Type 0 where
  pub out : IsOutOfBudget entries (at_node (start q) ∷ []) leaves budget
  pub fewer : FewerThan bound (answers_among leaves)

-- The run of a query over the context G comes to something deep, with fewer answers than are asked for.
pub record RunsDeep (entries : List Entry) (limit : ℕ) (G : List LfType) (q : Query) (budget : ℕ) (bound : Bound) (leaves : List Node) : Type 0 where
  pub reached : List Pending
  pub tries : ℕ
  pub left : ℕ
  pub run : Searches entries q leaves tries reached
  pub within : tries + left ≡ budget
  pub fewer : FewerThan bound (answers_among leaves)
  pub deep : IsDeepNext limit (signature_of entries) G left reached

-- What a run of a search is at, after these leaves and tries and with this agenda: at its bound, at its end, or at the end of its budget.
pub data Stand : Type 0 where
  at_bound at_end at_budget : Stand

abbrev pub StandsAt : Signature → ℕ → Bound → List Node → ℕ → List Pending → Stand → Type 0
StandsAt Σ budget bound leaves tries agenda at_bound = AsManyAs bound (answers_among leaves) × (tries ≤ budget)
StandsAt Σ budget bound leaves tries agenda at_end = (agenda ≡ []) × FewerThan bound (answers_among leaves) × (tries ≤ budget)
StandsAt Σ budget bound leaves tries agenda at_budget = TryIsDue Σ agenda × FewerThan bound (answers_among leaves) × (tries ≡ budget)

-- where a run of a query stands at its end
abbrev pub stand_of : QueryEnd → Stand
stand_of stopped = at_bound
stand_of exhausted = at_end
stand_of incomplete = at_end
