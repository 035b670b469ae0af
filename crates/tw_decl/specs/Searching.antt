-- What `%query` and `%solve` ask for, what their search comes to, and the lines of a query.
use Rattle.std.specs.Prelude.{◌≡◌, ◌≢◌, ℕ, ◌+◌, List, [], ◌∷◌, ◌++◌, map as each, option_map, Option, None, Some, codes, decimal}
use Rattle.lf.specs.Entries.{Entry, signature_of}
use Rattle.lf_search.specs.Bounded as bounded
use Rattle.lf_search.specs.Bounded.{Bound}
use Rattle.tw_metas.specs.declared.left.LeftEquation.{LeftEquation}
use Rattle.tw_parse.specs.Queries.{Query}
use Rattle.tw_parse_queries.specs.declared.search.ExtBound.{ExtBound}
use Rattle.tw_parse_queries.specs.declared.search.ExtBound.TheVariants.{Number, Star}
use Rattle.tw_query.specs.Runs.{IsRunOf, answers_in}
use Rattle.tw_query.specs.Text.{answer_text}
use Rattle.tw_query.specs.declared.run.Leaf.{Leaf}
use Rattle.tw_query.specs.declared.run.Leaf.TheVariants as leaf
use Rattle.tw_query.specs.declared.run.QueryEnd.{QueryEnd}
use Rattle.tw_query.specs.declared.run.QueryEnd.TheVariants as ends
use Rattle.tw_recon.specs.Queries.{IsCanonicalGoal, IsGoalOf}
use Rattle.tw_search.specs.declared.answer.Answer.{Answer}
use Rattle.tw_signature.specs.Goal.{Goal}
use Rattle.tw_terms.specs.View.{term_of}
use Rattle.tw_decl.specs.Equations.{left_text}
use Rattle.tw_decl.specs.View.{View, scene_of}

-- the goal that is asked for: what is written is reconstructed to it, and it may be asked over the signature
pub record IsAsked (es : List Entry) (q : Query) (g : Goal) : Type 0 where
  pub reconstructs : IsGoalOf es q g
  pub canonical : IsCanonicalGoal (signature_of es) g

-- how many answers are looked for
abbrev pub bound_of : ExtBound → Bound
bound_of (Number n) = bounded.number n
bound_of Star = bounded.star

-- The run of what is asked, with the budget of the session: the leaves of its search in order, how it ended, and all its tries. Where it is exhausted, each
-- closed answer of the goal is an instance of one that was given.
pub record Runs (v : View) (q : Query) (bound : Bound) (goal : Goal) (leaves : List Leaf) (end : QueryEnd) (tries : ℕ) : Type 0 where
  pub asked : IsAsked v.signature q goal
  pub run : IsRunOf v.signature goal bound v.parameters.steps leaves end tries

-- The answers are as expected: any, or so many, where no leaf was left over at the end of the search. With z and s, `%query 2 * plus X Y (s z).` finds its two.
abbrev pub IsAsExpected : ExtBound → List Leaf → QueryEnd → Type 0
IsAsExpected (Number n) leaves end = (end ≢ ends.Incomplete) × (answers_in leaves ≡ n)
IsAsExpected Star leaves end = Unit {0}

-- the first equation among the leaves
abbrev pub first_left : List Leaf → Option LeftEquation
first_left [] = None
first_left (leaf.Answer a ∷ xs) = first_left xs
first_left (leaf.Outside left ∷ xs) = Some left

-- the first answer
abbrev pub first_answer : List Leaf → Option Answer
first_answer [] = None
first_answer (leaf.Answer a ∷ xs) = Some a
first_answer (leaf.Outside left ∷ xs) = first_answer xs

abbrev pub bound_word : ExtBound → List ℕ
bound_word (Number n) = decimal n
bound_word Star = codes "*"

-- `%query e t`
abbrev pub query_heading : ExtBound → ExtBound → List ℕ
query_heading e t = codes "%query " ++ bound_word e ++ codes " " ++ bound_word t ++ codes "\n"

-- the lines of a leaf, where n answers come with it: those of the answer, or the equation that is left
abbrev pub leaf_lines : View → Goal → ℕ → Leaf → List ℕ
leaf_lines v g n (leaf.Answer a) = answer_text (scene_of v) g n a.free (each term_of a.values.items) (option_map term_of a.proof) ++ codes "\n"
leaf_lines v g n (leaf.Outside left) = codes "outside " ++ left_text v left ++ codes "\n"

-- the number of the answer that comes next
abbrev pub next_number : ℕ → Leaf → ℕ
next_number n (leaf.Answer a) = n + 1
next_number n (leaf.Outside left) = n

-- those of all leaves in order, whose first answer has this number
abbrev pub lines_of_leaves : View → Goal → ℕ → List Leaf → List ℕ
lines_of_leaves v g n [] = []
lines_of_leaves v g n (x ∷ xs) = leaf_lines v g n x ++ lines_of_leaves v g (next_number n x) xs

abbrev pub end_word : QueryEnd → List ℕ
end_word ends.Stopped = codes "stopped"
end_word ends.Exhausted = codes "exhausted"
end_word ends.Incomplete = codes "incomplete"

abbrev pub end_line : QueryEnd → ℕ → List ℕ
end_line end tries = end_word end ++ codes " tries " ++ decimal tries ++ codes "\n"

-- The lines of a query: `%query 2 *`, `solution 1`, `X = z`, `Y = s z`, `solution 2`, `X = s z`, `Y = z`, `exhausted tries 4`.
abbrev pub query_lines : View → ExtBound → ExtBound → Goal → List Leaf → QueryEnd → ℕ → List ℕ
query_lines v e t g leaves end tries = query_heading e t ++ lines_of_leaves v g 1 leaves ++ end_line end tries
