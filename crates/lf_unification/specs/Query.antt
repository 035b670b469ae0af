-- A query: its variables and the hole of its goal are metavariables in the empty context. An answer is an instance of these.
use Rattle.std.specs.Prelude.{◌≡◌, ℕ, suc, List, [], ◌∷◌, length, Option, Some}
use Rattle.lf.specs.Entries.{Entry}
use Rattle.lf.specs.Syntax.{Term, LfType}
use Rattle.lf.specs.Typing.{HasType, IsContext, Signature}
use Rattle.lf_unification.specs.Filling.{fill_type}
use Rattle.lf_unification.specs.Lists.{followed}
use Rattle.lf_unification.specs.OpenTyping.{IsInstance, skeletons_of}
use Rattle.lf_unification.specs.Reach.{TypeMentions}
use Rattle.lf_unification.specs.Search.{Node, Pending, SearchesFrom, answer_leaves, at_node}
use Rattle.lf_unification.specs.Unifiers.{ExtendsFilling, Unifies}

-- the metavariables, the next free number, the hole, which is in no type, and the goal
pub record Query : Type 0 where
  pub metavariables : ℕ → Option LfType
  pub next : ℕ
  pub hole : ℕ
  pub goal : LfType
  pub hole_of : metavariables hole ≡ Some goal
  pub hole_apart : (m : ℕ) (A : LfType) → metavariables m ≡ Some A → TypeMentions hole A → ⊥

-- the root: the proof is one hole
abbrev pub start : Query → Node
start q = record { store = record { metavariables = q.metavariables; bindings = []; equations = [] }; next = q.next; goals = q.hole ∷ [] }

-- the search of a query, from its root
abbrev pub Searches : List Entry → Query → List Node → ℕ → List Pending → Type 0
Searches entries q leaves tries agenda = SearchesFrom entries (at_node (start q) ∷ []) leaves tries agenda

-- A context, values of the query's variables that are typed in it, and a proof of the goal under them.
pub record IsAnswer (Σ : Signature) (q : Query) (F : List LfType) (values : ℕ → Option Term) (proof : Term) : Type 0 where
  pub context : IsContext Σ F
  pub typed : IsInstance Σ [] q.metavariables F values
  pub is_proof : values q.hole ≡ Some proof
  pub proves : HasType Σ F proof (fill_type (skeletons_of q.metavariables) values q.goal)

-- Values that are an instance of a leaf: they fill the leaf's metavariables, what the leaf binds has the bound term, filled, and the
-- equations that are postponed there hold.
pub record OfLeaf (Σ : Signature) (q : Query) (l : Node) (F : List LfType) (values : ℕ → Option Term) : Type 0 where
  pub filling : ℕ → Option Term
  pub instance : IsInstance Σ [] l.store.metavariables F filling
  pub unifies : Unifies l.store filling
  pub extends : ExtendsFilling q.metavariables values filling

-- A search that stops at its t-th answer, with its leaves and its number of tries. None is asked for: no leaf, and no try. Else the run
-- comes to a node that is an answer, with t - 1 answers among the earlier leaves, and it goes no further.
pub data StopsAtAnswer (entries : List Entry) (q : Query) : ℕ → List Node → ℕ → Type 0 where
  none_asked : StopsAtAnswer entries q 0 [] 0
  at_last : {earlier : List Node} {last : Node} {tries : ℕ} {agenda : List Pending} →
      Searches entries q earlier tries (at_node last ∷ agenda) → last.goals ≡ [] → last.store.equations ≡ [] →
      StopsAtAnswer entries q (suc (length (answer_leaves earlier))) (followed earlier (last ∷ [])) tries
