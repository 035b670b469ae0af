-- The loop of answers: what is read next, and what is replied to a query and behind `More?`.
use Rattle.std.specs.Prelude.{◌≡◌, ◌⊎◌, ℕ, ◌≤◌, ◌<◌, List, [], ◌∷◌, ◌++◌, length, codes, nat_eq, nat_lt, ◌||◌, if◌then◌else◌}
use Rattle.lf.specs.Entries.{signature_of}
use Rattle.tw_decl.specs.Question.{AsksFor, AsksNothing, RefusesQuery}
use Rattle.tw_decl.specs.Refusals.{refusal_line}
use Rattle.tw_decl.specs.View.{View, scene_of}
use Rattle.tw_decl.specs.declared.refusal.Refusal.TheVariants.{TooDeep}
use Rattle.tw_lexer.specs.declared.place.Place.{Place}
use Rattle.tw_recon.specs.Queries.{IsCanonicalGoal}
use Rattle.tw_signature.specs.Goal.{Goal}
use Rattle.tw_top.specs.Rounds.{Ending, Rounds, Standing, begun, deep, over, paused, round_budget}
use Rattle.tw_server.specs.Limits.{line_limit, text_limit}
use Rattle.tw_server.specs.Replies.{accepted, no_memory}

-- the search of a query behind `More?`: its goal, where the query's first token stands, and where the search stands
pub record Waiting : Type 0 where
  pub goal : Goal
  pub at : Place
  pub standing : Standing

-- What is read next: a command; behind `top` the text of a query; behind `More?` a line that says whether the search goes on.
pub data Phase : Type 0 where
  a_command : Phase
  a_query : Phase
  a_choice : Waiting → Phase

-- what is read behind what a round ends with
abbrev pub phase_after : Goal → Place → Ending → Phase
phase_after g at (paused s) = a_choice (record { goal = g; at = at; standing = s })
phase_after g at over = a_query
phase_after g at deep = a_query

-- where something is too deep, the refusal of the query says so
abbrev pub lines_after : Place → Ending → List ℕ
lines_after at (paused s) = []
lines_after at over = []
lines_after at deep = refusal_line (codes "stdin") (TooDeep at)

-- a round, with a budget of its own, from where the search of the goal stands
pub record PlaysRound (v : View) (g : Goal) (at : Place) (s : Standing) (reply : List ℕ) (next : Phase) : Type 0 where
  pub lines : List ℕ
  pub end : Ending
  pub round : Rounds v.signature (scene_of v) g (round_budget v.parameters.steps s.tries) s lines end
  pub says : reply ≡ lines ++ lines_after at end
  pub then_reads : next ≡ phase_after g at end

-- memory is wanting: the search ends, and the next text is read
pub record EndsSearch (reply : List ℕ) (next : Phase) : Type 0 where
  pub says : reply ≡ no_memory
  pub then_reads : next ≡ a_query

abbrev pub GoesOn : View → Goal → Place → Standing → List ℕ → Phase → Type 0
GoesOn v g at s reply next = EndsSearch reply next ⊎ PlaysRound v g at s reply next

-- A text may have 16,777,216 bytes, its last line feed with them.
pub record IsQueryLong (text reply : List ℕ) (next : Phase) : Type 0 where
  pub long : text_limit < length text
  pub says : reply ≡ codes "C4 TextLong\n"
  pub then_reads : next ≡ a_query

-- the text asks nothing: the loop ends
pub record IsLoopOver (text reply : List ℕ) (next : Phase) : Type 0 where
  pub short : length text ≤ text_limit
  pub nothing : AsksNothing text
  pub says : reply ≡ accepted
  pub then_reads : next ≡ a_command

-- the query is refused, for the cause that its line shows
pub record IsQueryRefused (v : View) (text reply : List ℕ) (next : Phase) : Type 0 where
  pub short : length text ≤ text_limit
  pub refuses : RefusesQuery v (codes "stdin") text reply
  pub then_reads : next ≡ a_query

-- the search of the query begins
pub record Begins (v : View) (text reply : List ℕ) (next : Phase) : Type 0 where
  pub short : length text ≤ text_limit
  pub goal : Goal
  pub at : Place
  pub asks : AsksFor v text goal at
  pub canonical : IsCanonicalGoal (signature_of v.signature) goal
  pub goes : GoesOn v goal at (begun goal) reply next

-- what may be replied to the text of a query, at every value of `chatter`
abbrev pub AnswersQuestion : View → List ℕ → List ℕ → Phase → Type 0
AnswersQuestion v text reply next = EndsSearch reply next ⊎ IsQueryLong text reply next ⊎ IsLoopOver text reply next ⊎ IsQueryRefused v text reply next ⊎ Begins v text reply next

-- what a line behind `More?` chooses
pub data Choice : Type 0 where
  to_go_on to_leave to_drop : Choice

-- its first byte decides
abbrev pub choice_by : ℕ → Choice
choice_by b = if nat_eq b 121 || nat_eq b 89 then to_go_on else if nat_eq b 113 || nat_eq b 81 then to_leave else to_drop

abbrev pub first_choice : List ℕ → Choice
first_choice [] = to_drop
first_choice (b ∷ bs) = choice_by b

-- `y` and `Y` let the search go on, and `q` and `Q` end the loop; any other line drops the search, and so does one of more than 65,536 bytes
abbrev pub choice_of : List ℕ → Choice
choice_of body = if nat_lt line_limit (length body) then to_drop else first_choice body

-- what is replied to it
abbrev pub AnswersChoice : View → Waiting → Choice → List ℕ → Phase → Type 0
AnswersChoice v w to_go_on reply next = GoesOn v w.goal w.at w.standing reply next
AnswersChoice v w to_leave reply next = (reply ≡ accepted) × (next ≡ a_command)
AnswersChoice v w to_drop reply next = (reply ≡ []) × (next ≡ a_query)

-- At the end of the input a search is dropped, and the loop ends.
abbrev pub last_reply : Phase → List ℕ
last_reply a_command = []
last_reply a_query = accepted
last_reply (a_choice w) = accepted
