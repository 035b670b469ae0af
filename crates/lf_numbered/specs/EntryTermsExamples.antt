-- Worked cases with block variables by number that match entries by terms, and some that don't: of copying; of a block with a `some` variable; and the goal
-- of outputs of an entry's subgoal.
use Rattle.std.specs.Prelude.{◌≡◌, ℕ, zero, suc, List, [], ◌∷◌, Option, Some, None, refl}
use Rattle.lf.specs.Syntax.{constant, root, nil, app, Term, LfType, Kind, pi, kind_pi, star, base}
use Rattle.lf.specs.Substitution.{Image, put}
use Rattle.lf.specs.Typing.{Signature}
use Rattle.lf.specs.Subordination.{Block}
use Rattle.lf_checks.specs.Clause.{Clause, entry_clause}
use Rattle.lf_cases.specs.Cover.{before}
use Rattle.lf_cases.specs.Pattern.{of_entry, Pattern, head_pattern}
use Rattle.lf_totality.specs.Examples.{exp, on_two, var}
use Rattle.lf_totality.specs.ExamplesGroups.{on_one}
use Rattle.lf_coverage.specs.ExamplesCopying.{copy_entry_head}
use Rattle.lf_numbered.specs.EntryPatterns.{variable_images, IsInstanceOfPattern}
use Rattle.lf_numbered.specs.EntryPatternsExamples.{Laters, answering_block, asked, asked_goal, asking_block}
use Rattle.lf_numbered.specs.EntryTerms.{IsTypedBesideWith, MatchesByNumber, own_values}
use Rattle.lf_numbered.specs.ExamplesNumbered.{one_copy, two_copies}
use Rattle.lf_numbered.specs.NumberedCase.{NumberedCase}

-- The case cp b.x b.x of a block variable b of {x:exp} {u:cp x x} matches the entry u : cp x x, by b; cp b.x c.x of two doesn't.
abbrev pub CopyMatchesEntry : Type 0
CopyMatchesEntry = MatchesByNumber 4 one_copy copy_entry_head × (MatchesByNumber 4 two_copies copy_entry_head → ⊥)

-- Families: exp = 0, and q = 1, exp -> exp -> type. One constant, z : exp, 0.
abbrev pub pair_types : ℕ → Option LfType
pair_types zero = Some exp
pair_types (suc n) = None

abbrev pub pair_kinds : ℕ → Option Kind
pair_kinds zero = Some star
pair_kinds (suc zero) = Some (kind_pi exp (kind_pi exp star))
pair_kinds (suc (suc n)) = None

abbrev pub Pairs : Signature
Pairs = record { types = pair_types; kinds = pair_kinds }

-- some {n:exp} block {y:exp} {v:q n y} {w:{Y:exp} q Y y}
abbrev pub pair_entry : LfType
pair_entry = on_two 1 (var 1) (var 0)

abbrev pub open_entry : LfType
open_entry = pi exp (on_two 1 (var 0) (var 2))

abbrev pub pair_block : Block
pair_block = record { label = 49 ∷ []; some = exp ∷ []; entries = open_entry ∷ pair_entry ∷ exp ∷ [] }

abbrev pub pair_worlds : List Block
pair_worlds = pair_block ∷ []

-- the heads of v and w
abbrev pub pair_clause : Clause
pair_clause = entry_clause pair_block (exp ∷ []) pair_entry

abbrev pub pair_head : Pattern
pair_head = head_pattern pair_clause (of_entry pair_block (open_entry ∷ []) pair_entry (exp ∷ []) refl)

abbrev pub open_clause : Clause
open_clause = entry_clause pair_block (pair_entry ∷ exp ∷ []) open_entry

abbrev pub open_head : Pattern
open_head = head_pattern open_clause (of_entry pair_block [] open_entry (pair_entry ∷ exp ∷ []) refl)

-- From the number 2 on the constants of a block variable b on z are b.y = 2, b.v = 3 and b.w = 4, each on z.
abbrev pub z : Term
z = root (constant 0) nil

abbrev pub pair_term : Term
pair_term = root (constant 2) (app z nil)

-- q z b.y, and q N b.y for a variable N
abbrev pub pair_case : NumberedCase
pair_case = record { blocks = record { block = pair_block; terms = app z nil } ∷ []; variables = []; given = []; local = []; family = 1; arguments = Some z ∷ Some pair_term ∷ [] }

abbrev pub open_pair : NumberedCase
open_pair = record { blocks = record { block = pair_block; terms = app z nil } ∷ []; variables = exp ∷ []; given = []; local = []; family = 1; arguments = Some (var 0) ∷ Some pair_term ∷ [] }

-- what b gives to what stands outside the clause of w
abbrev pub pair_outer : ℕ → Image
pair_outer = before [] (variable_images 2 open_pair.blocks 0 pair_block (app z nil))

-- The first matches v, since z is b's own n; the second doesn't, since N isn't z, but it matches w, where Y is N. So, by terms alone, it is an instance of
-- w and not of v.
abbrev pub PairMatchesEntry : Type 0
PairMatchesEntry = MatchesByNumber 2 pair_case pair_head × (MatchesByNumber 2 open_pair pair_head → ⊥) × MatchesByNumber 2 open_pair open_head × (own_values open_pair open_head pair_outer 0 ≡ put (base 0) (var 0))

abbrev pub PairIsInstance : Type 0
PairIsInstance = IsInstanceOfPattern Pairs 2 open_pair open_head × (IsInstanceOfPattern Pairs 2 open_pair pair_head → ⊥)

-- The goal q N D beside the subgoal q n D of v in some {n:exp} block {v:({D:t n} q n D -> r)}: N is the n of its block variable a.
abbrev pub asked_outer : ℕ → Image
asked_outer = before [] (variable_images 4 asked_goal.blocks 0 asking_block (app (var 1) nil))

-- the same with another block variable in front, so that a has the number 1
abbrev pub later_goal : NumberedCase
later_goal = record { blocks = record { block = answering_block; terms = nil } ∷ record { block = asking_block; terms = app (var 1) nil } ∷ []; variables = on_one 1 (var 0) ∷ exp ∷ []; given = None ∷ None ∷ []; local = []; family = 2; arguments = None ∷ Some (var 0) ∷ [] }

-- and with a on another variable M : exp, of which D isn't a proof
abbrev pub odd_goal : NumberedCase
odd_goal = record { blocks = record { block = asking_block; terms = app (var 2) nil } ∷ []; variables = on_one 1 (var 0) ∷ exp ∷ exp ∷ []; given = None ∷ None ∷ []; local = []; family = 2; arguments = None ∷ Some (var 0) ∷ [] }

abbrev pub odd_outer : ℕ → Image
odd_outer = before [] (variable_images 4 odd_goal.blocks 0 asking_block (app (var 2) nil))

-- The goal matches the subgoal by its own block variable, of number 0, which alone is tried: so with a of number 1 it doesn't.
abbrev pub AskedMatches : Type 0
AskedMatches = MatchesByNumber 4 asked_goal asked × (MatchesByNumber 4 later_goal asked → ⊥)

-- It is typed beside the subgoal, and so, by terms alone, an instance of it. With a on M the goal isn't typed beside it: the subgoal asks t M of D.
abbrev pub AskedIsInstance : Type 0
AskedIsInstance = IsTypedBesideWith Laters 4 asked_goal asked asked_outer × IsInstanceOfPattern Laters 4 asked_goal asked × (IsTypedBesideWith Laters 4 odd_goal asked odd_outer → ⊥)
