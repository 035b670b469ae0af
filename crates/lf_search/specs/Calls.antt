-- What a call of a search adds to the run of a query, after so many tries and with these leaves.
use Rattle.std.specs.Prelude.{◌≡◌, ℕ, suc, ◌+◌, ◌≤◌, List, [], ◌∷◌}
use Rattle.lf.specs.Entries.{Entry, signature_of}
use Rattle.lf.specs.Syntax.{LfType, Term}
use Rattle.lf_unification.specs.Lists.{followed}
use Rattle.lf_unification.specs.Query.{Query, Searches}
use Rattle.lf_unification.specs.Search.{Node, Pending}
use Rattle.lf_unification.specs.Unifiers.{Equation}
use Rattle.lf_search.specs.Answers.{IsReadOffLeaf}
use Rattle.lf_search.specs.Bounded.{QueryRuns, answers_among, end_by, incomplete, number, stopped}

-- A leaf that is an answer: there is one answer more, and a query that asks for so many stops here.
pub record AfterAnswer (entries : List Entry) (G : List LfType) (q : Query) (budget : ℕ) (leaves : List Node) (tries : ℕ) (F : List LfType) (Ms : List Term) (proof : Term) (more : ℕ) (after : List Pending) : Type 0 where
  pub leaf : Node
  pub no_equations : leaf.store.equations ≡ []
  pub read : IsReadOffLeaf (signature_of entries) G leaf F Ms proof
  pub run : Searches entries q (followed leaves (leaf ∷ [])) (tries + more) after
  pub within : tries + more ≤ budget
  pub one_more : answers_among (followed leaves (leaf ∷ [])) ≡ suc (answers_among leaves)
  pub same_end : end_by (followed leaves (leaf ∷ [])) ≡ end_by leaves
  pub stops_here : QueryRuns entries q budget (number (suc (answers_among leaves))) (followed leaves (leaf ∷ [])) stopped (tries + more)

-- A leaf that is left over: there are as many answers as before, and the search will end incomplete.
pub record AfterLeftOver (entries : List Entry) (q : Query) (budget : ℕ) (leaves : List Node) (tries : ℕ) (leaf : Node) (e : Equation) (more : ℕ) (after : List Pending) : Type 0 where
  pub first : (es : List Equation) × (leaf.store.equations ≡ e ∷ es)
  pub run : Searches entries q (followed leaves (leaf ∷ [])) (tries + more) after
  pub within : tries + more ≤ budget
  pub as_many : answers_among (followed leaves (leaf ∷ [])) ≡ answers_among leaves
  pub is_incomplete : end_by (followed leaves (leaf ∷ [])) ≡ incomplete
