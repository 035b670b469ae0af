-- Rounds of answers: the search of a query goes on from where it stands to its next answer, its end, or the end of a budget.
use Rattle.std.specs.Prelude.{◌≡◌, ℕ, suc, ◌+◌, ◌-◌, ◌^◌, ◌≤◌, List, [], ◌∷◌, ◌++◌, min}
use Rattle.lf.specs.Depth.{depth_limit}
use Rattle.lf.specs.Entries.{Entry, signature_of}
use Rattle.lf_unification.specs.Lists.{followed}
use Rattle.lf_unification.specs.Search.{Node, Pending, SearchesFrom, TryIsDue, at_node}
use Rattle.lf_search.specs.Bounded.{answers_among, end_by}
use Rattle.lf_search.specs.Coming.{IsDeepNext}
use Rattle.lf_search.specs.Goals.{root_of}
use Rattle.tw_metas.specs.declared.left.LeftEquation.{LeftEquation}
use Rattle.tw_print.specs.Names.{Scene}
use Rattle.tw_query.specs.Runs.{IsAnswerAt}
use Rattle.tw_search.specs.Left.{IsDeepAt, IsLeftAt}
use Rattle.tw_search.specs.declared.answer.Answer.{Answer}
use Rattle.tw_signature.specs.Goal.{Goal}
use Rattle.tw_top.specs.Lines.{answer_lines, budget_lines, end_line, outside_line}

-- Where the search of a query stands: the leaves that it came to, in order; how many tries it made; and what is still to be searched.
pub record Standing : Type 0 where
  pub leaves : List Node
  pub tries : ℕ
  pub agenda : List Pending

-- the root of the goal's tree
abbrev pub root : Goal → List Pending
root g = at_node (root_of g.variables g.goal) ∷ []

abbrev pub begun : Goal → Standing
begun g = record { leaves = []; tries = 0; agenda = root g }

-- k tries further, with no leaf more
abbrev pub further : Standing → ℕ → List Pending → Standing
further s k after = record { leaves = s.leaves; tries = s.tries + k; agenda = after }

-- k tries further, behind this leaf
abbrev pub behind : Standing → Node → ℕ → List Pending → Standing
behind s l k after = record { leaves = followed s.leaves (l ∷ []); tries = s.tries + k; agenda = after }

-- the search stands there in a run of the goal's tree: it came to these leaves, to no other and to none twice, with these tries
abbrev pub IsReached : List Entry → Goal → Standing → Type 0
IsReached es g s = SearchesFrom es (root g) s.leaves s.tries s.agenda

-- The search goes k tries on from where it stands, and comes to no leaf.
abbrev pub FindsNoLeaf : List Entry → Goal → Standing → ℕ → List Pending → Type 0
FindsNoLeaf es g s k after = SearchesFrom es s.agenda [] k after × IsReached es g (further s k after)

-- The next leaf is this one, k tries on from where the search stands; it then stands behind it.
abbrev pub FindsLeaf : List Entry → Goal → Standing → Node → ℕ → List Pending → Type 0
FindsLeaf es g s l k after = SearchesFrom es s.agenda [] k (at_node l ∷ after) × (l.goals ≡ []) × IsReached es g (behind s l k after)

-- What a round ends with: a pause, from which the search goes on; the end of the tree; or something that is too deep.
pub data Ending : Type 0 where
  paused : Standing → Ending
  over : Ending
  deep : Ending

-- A round from where the search of the goal stands, with a budget of tries: its lines, and what it ends with. Leaves that are left over are shown on the way. Over z and s the first
-- round of `nat` shows `solution 1`, `Empty Substitution.` and `More?`; so does the second one as `solution 2`. With c : a, l : b <- b and d : a <- b, and 10 tries for a round,
-- the first one of `a` shows its answer at try 1, the second one `budget tries 11`.
pub data Rounds (es : List Entry) (scene : Scene) (g : Goal) : ℕ → Standing → List ℕ → Ending → Type 0 where
  answers : {budget : ℕ} {s : Standing} (l : Node) (k : ℕ) (after : List Pending) (a : Answer) →
      FindsLeaf es g s l k after → k ≤ budget → IsAnswerAt es g l a →
      Rounds es scene g budget s (answer_lines scene g (suc (answers_among s.leaves)) a) (paused (behind s l k after))
  leaves_over : {budget : ℕ} {s : Standing} {lines : List ℕ} {end : Ending} (l : Node) (k : ℕ) (after : List Pending) (left : LeftEquation) →
      IsReached es g (behind s l k after) → k ≤ budget → IsLeftAt es g l left → Rounds es scene g (budget - k) (behind s l k after) lines end →
      Rounds es scene g budget s (outside_line scene left ++ lines) end
  ends : {budget : ℕ} {s : Standing} (k : ℕ) →
      FindsNoLeaf es g s k [] → k ≤ budget →
      Rounds es scene g budget s (end_line (end_by s.leaves) (s.tries + k)) over
  runs_out : {budget : ℕ} {s : Standing} (after : List Pending) →
      FindsNoLeaf es g s budget after → TryIsDue (signature_of es) after →
      Rounds es scene g budget s (budget_lines (s.tries + budget)) (paused (further s budget after))
  next_is_deep : {budget : ℕ} {s : Standing} (k left : ℕ) (after : List Pending) →
      FindsNoLeaf es g s k after → k + left ≡ budget → IsDeepNext depth_limit (signature_of es) g.variables left after →
      Rounds es scene g budget s [] deep
  leaf_is_deep : {budget : ℕ} {s : Standing} (l : Node) (k : ℕ) (after : List Pending) →
      FindsLeaf es g s l k after → k ≤ budget → IsDeepAt es g l →
      Rounds es scene g budget s [] deep

-- The budget of a round: as many tries as are allowed, but no more than 2^64 - 1 in all rounds of a search. Each round has a new one.
abbrev pub round_budget : ℕ → ℕ → ℕ
round_budget steps tries = min steps (2 ^ 64 - 1 - tries)
