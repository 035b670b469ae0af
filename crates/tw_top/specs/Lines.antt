-- The lines of a round of answers.
use Rattle.std.specs.Prelude.{ℕ, List, ◌++◌, map, option_map, Bool, true, false, codes, decimal}
use Rattle.lf_search.specs.Bounded.{QueryEnd, exhausted, incomplete, stopped}
use Rattle.tw_equation.specs.Text.{equation_text}
use Rattle.tw_metas.specs.Named.{shown_type_of}
use Rattle.tw_metas.specs.View.{equation_of}
use Rattle.tw_metas.specs.declared.left.LeftEquation.{LeftEquation}
use Rattle.tw_print.specs.Names.{Scene}
use Rattle.tw_query.specs.Text.{answer_text}
use Rattle.tw_search.specs.declared.answer.Answer.{Answer}
use Rattle.tw_signature.specs.Goal.{Goal}
use Rattle.tw_terms.specs.View.{term_of}

-- behind it a line is read
abbrev pub more_line : List ℕ
more_line = codes "More?\n"

-- the n-th answer: its text, and `More?`
abbrev pub answer_lines : Scene → Goal → ℕ → Answer → List ℕ
answer_lines s g n a = answer_text s g n a.free (map term_of a.values.items) (option_map term_of a.proof) ++ (codes "\n" ++ more_line)

-- a leaf that is left over: `outside M = N`
abbrev pub outside_line : Scene → LeftEquation → List ℕ
outside_line s left = codes "outside " ++ (equation_text s (map shown_type_of left.metas.items) left.names.items (equation_of left.equation) ++ codes "\n")

-- a word, and a number of tries
abbrev pub tries_line : List ℕ → ℕ → List ℕ
tries_line word n = word ++ (codes " tries " ++ (decimal n ++ codes "\n"))

-- the end of a tree, by whether a leaf was left over
abbrev pub ended : Bool → QueryEnd
ended true = incomplete
ended false = exhausted

abbrev pub end_word : QueryEnd → List ℕ
end_word stopped = codes "stopped"
end_word exhausted = codes "exhausted"
end_word incomplete = codes "incomplete"

-- the search came to its end, with all its tries
abbrev pub end_line : QueryEnd → ℕ → List ℕ
end_line end n = tries_line (end_word end) n

-- a budget's tries were made; n are all tries of the search
abbrev pub budget_lines : ℕ → List ℕ
budget_lines n = tries_line (codes "budget") n ++ more_line
