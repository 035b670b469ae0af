-- The run of a query: its leaves in order, how it ended and its tries; and why there is none.
use Rattle.std.specs.Prelude.{◌≡◌, ℕ, zero, suc, ◌≤◌, List, [], ◌∷◌, is_some}
use Rattle.lf.specs.Depth.{depth_limit}
use Rattle.lf.specs.Entries.{Entry, signature_of}
use Rattle.lf.specs.Subordination.{Member}
use Rattle.lf.specs.Syntax.{Term}
use Rattle.lf.specs.Typing.{Signature}
use Rattle.lf_unification.specs.Lists.{followed}
use Rattle.lf_unification.specs.Query.{Query, Searches}
use Rattle.lf_unification.specs.Search.{Node, Pending}
use Rattle.lf_search.specs.Answers.{IsAnswerOf, IsInstanceOfAnswer, IsReadOffLeaf}
use Rattle.lf_search.specs.Bounded.{Bound, FewerThan, QueryRuns, RunsDeep, RunsOut, answers_among}
use Rattle.lf_search.specs.Goals.{IsQueryOf}
use Rattle.tw_search.specs.Answers.{HasProof, values_of}
use Rattle.tw_search.specs.Left.{IsDeepAt, IsLeftAt}
use Rattle.tw_search.specs.declared.answer.Answer.{Answer}
use Rattle.tw_signature.specs.Goal.{Goal}
use Rattle.tw_query.specs.View.{end_of}
use Rattle.tw_query.specs.declared.run.Leaf.{Leaf}
use Rattle.tw_query.specs.declared.run.Leaf.TheVariants as leaf
use Rattle.tw_query.specs.declared.run.QueryEnd.{QueryEnd}
use Rattle.tw_query.specs.declared.run.QueryEnd.TheVariants as ends
use Rattle.tw_query.specs.declared.run.QueryFault.{QueryFault}
use Rattle.tw_query.specs.declared.run.QueryFault.TheVariants as fault

-- The values are typed, and so is a proof: the one that was read, or one that wasn't. Its proof is read exactly where the goal names it.
pub record IsTypedAnswer (Σ : Signature) (g : Goal) (a : Answer) : Type 0 where
  pub named : is_some a.proof ≡ is_some g.proof
  pub proof : Term
  pub has_proof : HasProof a proof
  pub is_answer : IsAnswerOf Σ g.variables g.goal a.free (values_of a) proof

-- The leaf has no equation, the answer is read off it, and it is one of the goal: typed, with a proof.
pub record IsAnswerAt (es : List Entry) (g : Goal) (l : Node) (a : Answer) : Type 0 where
  pub none_left : l.store.equations ≡ []
  pub typed : IsTypedAnswer (signature_of es) g a
  pub read : IsReadOffLeaf (signature_of es) g.variables l a.free (values_of a) typed.proof

-- what is shown of a leaf
abbrev pub IsShownAs : List Entry → Goal → Node → Leaf → Type 0
IsShownAs es g l (leaf.Answer a) = IsAnswerAt es g l a
IsShownAs es g l (leaf.Outside e) = IsLeftAt es g l e

-- each of the leaves, in order, none left out and none twice
abbrev pub AreShownAs : List Entry → Goal → List Node → List Leaf → Type 0
AreShownAs es g [] [] = Unit {0}
AreShownAs es g [] (x ∷ xs) = ⊥
AreShownAs es g (l ∷ ls) [] = ⊥
AreShownAs es g (l ∷ ls) (x ∷ xs) = IsShownAs es g l x × AreShownAs es g ls xs

-- how many of them are answers
abbrev pub answers_in : List Leaf → ℕ
answers_in [] = zero
answers_in (leaf.Answer a ∷ xs) = suc (answers_in xs)
answers_in (leaf.Outside e ∷ xs) = answers_in xs

-- how a run ends that comes to the end of its tree with these leaves
abbrev pub end_in : List Leaf → QueryEnd
end_in [] = ends.Exhausted
end_in (leaf.Answer a ∷ xs) = end_in xs
end_in (leaf.Outside e ∷ xs) = ends.Incomplete

-- An answer that was given, of one of these nodes: closed values with a proof are an instance of it, with the proof of its leaf, read or not.
pub record IsFoundIn (es : List Entry) (g : Goal) (nodes : List Node) (leaves : List Leaf) (values : List Term) (proof : Term) : Type 0 where
  pub given : Answer
  pub is_given : Member (leaf.Answer given) leaves
  pub node : Node
  pub of_run : Member node nodes
  pub at_node : IsAnswerAt es g node given
  pub instance : IsInstanceOfAnswer (signature_of es) given.free (values_of given) at_node.typed.proof values proof

-- each closed answer of the goal is an instance of one that was given
abbrev pub AllAreFound : List Entry → Goal → List Node → List Leaf → Type 0
AllAreFound es g nodes leaves = (values : List Term) (proof : Term) → IsAnswerOf (signature_of es) g.variables g.goal [] values proof → IsFoundIn es g nodes leaves values proof

-- A run of the query of the goal, with a bound on its answers and a budget: all its leaves as they are shown, how it ended, and all its tries. Where it is
-- exhausted, all answers are found. Over z and s, `%query * 3 nat` stops with z, s z and s (s z).
pub record IsRunOf (es : List Entry) (g : Goal) (bound : Bound) (budget : ℕ) (leaves : List Leaf) (end : QueryEnd) (tries : ℕ) : Type 0 where
  pub query : Query
  pub of_goal : IsQueryOf g.variables g.goal query
  pub nodes : List Node
  pub runs : QueryRuns es query budget bound nodes (end_of end) tries
  pub shown : AreShownAs es g nodes leaves
  pub count : answers_in leaves ≡ answers_among nodes
  pub all_found : end ≡ ends.Exhausted → AllAreFound es g nodes leaves

-- the run is out of budget
pub record IsOutOf (es : List Entry) (g : Goal) (bound : Bound) (budget : ℕ) : Type 0 where
  pub query : Query
  pub of_goal : IsQueryOf g.variables g.goal query
  pub nodes : List Node
  pub out : RunsOut es query budget bound nodes

-- The run comes, with fewer answers than are asked for, to something deep: to equations or an answer, or to a leaf that is left over where what is needed to show it is deep.
pub data MeetsDeep (es : List Entry) (g : Goal) (bound : Bound) (budget : ℕ) : Type 0 where
  in_search : (q : Query) (nodes : List Node) → IsQueryOf g.variables g.goal q → RunsDeep es depth_limit g.variables q budget bound nodes → MeetsDeep es g bound budget
  at_leaf : (q : Query) (nodes : List Node) (l : Node) (tries : ℕ) (agenda : List Pending) → IsQueryOf g.variables g.goal q → Searches es q (followed nodes (l ∷ [])) tries agenda →
      tries ≤ budget → FewerThan bound (answers_among nodes) → IsDeepAt es g l → MeetsDeep es g bound budget

-- why there is no run
abbrev pub HasCause : List Entry → Goal → Bound → ℕ → QueryFault → Type 0
HasCause es g bound budget (fault.Budget n) = (n ≡ budget) × IsOutOf es g bound budget
HasCause es g bound budget fault.TooDeep = MeetsDeep es g bound budget
HasCause es g bound budget fault.NoMemory = Unit {0}
