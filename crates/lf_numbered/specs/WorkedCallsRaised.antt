-- A worked goal of an output Y : {x:a} d (F x), whose type mentions a local variable x though a isn't below d, as the types of `some` variables allow; and its
-- split.
use Rattle.std.specs.Prelude.{ℕ, zero, suc, [], ◌∷◌, List, Option, Some, None, refl}
use Rattle.lf.specs.Syntax.{constant, lambda, Term, root, nil, app, LfType, Kind, pi, atom, kind_pi, star}
use Rattle.lf.specs.Subordination.{Block}
use Rattle.lf.specs.Typing.{Signature}
use Rattle.lf_checks.specs.Clause.{Clause, entry_clause}
use Rattle.lf_checks.specs.Ground.{ground_first}
use Rattle.lf_checks.specs.Marks.{Mark, input, output}
use Rattle.lf_cases.specs.Pattern.{Origin, Pattern, of_entry, subgoal_pattern}
use Rattle.lf_totality.specs.Examples.{applied_to, var}
use Rattle.lf_coverage.specs.Calls.{instance}
use Rattle.lf_coverage.specs.ExamplesTwins.{up_to}
use Rattle.lf_numbered.specs.NumberedCalls.{NumberedMatchedIs, NumberedOutputGoalIs, NumberedSplitIs, numbered_cases}
use Rattle.lf_numbered.specs.NumberedCase.{NumberedCase}

-- The families are b : type (0), d : b -> type (1), q : {y:b} d y -> type (2), a : type (3) and r : type (4), and the one constant is g : {y:b} d y (0). Each
-- family is below each later one, so a isn't below b, d and q.
abbrev pub fam_b : LfType
fam_b = atom 0 nil

abbrev pub fam_a : LfType
fam_a = atom 3 nil

abbrev pub d_of : Term → LfType
d_of M = atom 1 (app M nil)

abbrev pub g_of : Term → Term
g_of M = root (constant 0) (app M nil)

abbrev pub g_type : LfType
g_type = pi fam_b (d_of (var 0))

abbrev pub raising_types : ℕ → Option LfType
raising_types zero = Some g_type
raising_types (suc c) = None

abbrev pub d_kind : Kind
d_kind = kind_pi fam_b star

abbrev pub q_kind : Kind
q_kind = kind_pi fam_b (kind_pi (d_of (var 0)) star)

abbrev pub raising_kinds : ℕ → Option Kind
raising_kinds zero = Some star
raising_kinds (suc zero) = Some d_kind
raising_kinds (suc (suc zero)) = Some q_kind
raising_kinds (suc (suc (suc zero))) = Some star
raising_kinds (suc (suc (suc (suc zero)))) = Some star
raising_kinds (suc (suc (suc (suc (suc c))))) = None

abbrev pub Raising : Signature
Raising = record { types = raising_types; kinds = raising_kinds }

-- The subgoal is {x:a} q (f x) (g (f x)). There are two blocks: l is some {f:a -> b} block {u:({x:a} q (f x) (g (f x))) -> r}, and k is block {x:a}.
abbrev pub asks_both : ℕ → LfType
asks_both f = pi fam_a (atom 2 (app (applied_to f 0) (app (g_of (applied_to f 0)) nil)))

abbrev pub raising_entry : LfType
raising_entry = pi (asks_both 1) (atom 4 nil)

abbrev pub raising_block : Block
raising_block = record { label = 108 ∷ []; some = pi fam_a fam_b ∷ []; entries = raising_entry ∷ [] }

abbrev pub local_block : Block
local_block = record { label = 107 ∷ []; some = []; entries = fam_a ∷ [] }

abbrev pub raising_worlds : List Block
raising_worlds = raising_block ∷ local_block ∷ []

abbrev pub raising_clause : Clause
raising_clause = entry_clause raising_block [] raising_entry

abbrev pub raising_origin : Origin raising_clause
raising_origin = of_entry raising_block [] raising_entry [] refl

-- The mode of q is q + -: its first place is an input, and its second an output.
abbrev pub raising_marks : ℕ → List Mark
raising_marks f = input ∷ output ∷ []

-- The pattern is the subgoal of the entry u.
abbrev pub asked_both : Pattern
asked_both = subgoal_pattern raising_clause raising_origin (asks_both 2)

-- The output g (f x) has the type d (f x). So the goal is q (F x) (Y x) under {x:a}, with Y : {x:a} d (F x), for the block variable on F to which u belongs.
abbrev pub raised_goal : NumberedCase
raised_goal = record {
  blocks = record { block = raising_block; terms = app (lambda (applied_to 2 0)) nil } ∷ [];
  variables = pi fam_a (d_of (applied_to 1 0)) ∷ pi fam_a fam_b ∷ [];
  given = None ∷ [];
  local = fam_a ∷ [];
  family = 2;
  arguments = None ∷ Some (applied_to 1 0) ∷ [];
}

-- The case that the split gives is q Z (g Z), where the block variable stands on [x] Z.
abbrev pub constant_goal : NumberedCase
constant_goal = record {
  blocks = record { block = raising_block; terms = app (lambda (var 1)) nil } ∷ [];
  variables = fam_b ∷ [];
  given = None ∷ [];
  local = fam_a ∷ [];
  family = 2;
  arguments = None ∷ Some (g_of (var 1)) ∷ [];
}

-- Y is raised over x, since its type d (f x) mentions x, though a isn't below d. The argument Z of g isn't raised: Y is [x] g Z and F is [x] Z, which loses
-- nothing, as no term of b has a term of a in it. What the split gives is an instance of the subgoal.
abbrev pub MentionedOutputIsSplit : Type 0
MentionedOutputIsSplit =
    NumberedOutputGoalIs 5 up_to raising_marks raising_origin (ground_first raising_marks raising_clause) (asks_both 2) q_kind raised_goal asked_both
    × NumberedSplitIs Raising 5 raising_worlds up_to raised_goal 0 (numbered_cases (constant_goal ∷ []))
    × NumberedMatchedIs Raising 5 raising_worlds constant_goal asked_both instance
