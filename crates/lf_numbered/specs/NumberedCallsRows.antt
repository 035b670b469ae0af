-- Worked stores in which a case by number is unified with an entry, and the candidates of an entry that is a function.
use Rattle.std.specs.Prelude.{◌≡◌, ℕ, [], ◌∷◌, false, Some, refl}
use Rattle.lf.specs.Syntax.{constant, variable, root, nil, app, LfType, pi}
use Rattle.lf.specs.Substitution.{Image}
use Rattle.lf.specs.Subordination.{Block}
use Rattle.lf_unification.specs.Unifiers.{Equation}
use Rattle.lf_checks.specs.Clause.{Clause, entry_clause}
use Rattle.lf_cases.specs.Cover.{before}
use Rattle.lf_cases.specs.Pattern.{Pattern, of_entry, head_pattern}
use Rattle.lf_totality.specs.Examples.{copy_block, cp_kind, exp, var}
use Rattle.lf_totality.specs.ExamplesGroups.{on_one}
use Rattle.lf_coverage.specs.ExamplesCopying.{copy_entry_head}
use Rattle.lf_numbered.specs.EntryPatterns.{variable_images}
use Rattle.lf_numbered.specs.ExamplesNumbered.{two_copies}
use Rattle.lf_numbered.specs.NumberedCallsReached.{numbered_candidates}
use Rattle.lf_numbered.specs.NumberedCallsStores.{Identifies, IsPutBeside, identified, meet_store_by_number}
use Rattle.lf_numbered.specs.NumberedCase.{NumberedCase}

-- u : cp x x is put beside cp b.x c.x as the entry of b.
abbrev pub copy_outer : ℕ → Image
copy_outer = before [] (variable_images 4 two_copies.blocks 0 copy_block nil)

abbrev pub equal_constants : ℕ → ℕ → Equation
equal_constants b c = record { local = []; left = root (constant b) nil; right = root (constant c) nil; of_type = exp }

-- Where b and c are different, the equations are b.x = b.x and c.x = b.x, which clash; where they are one, both are b.x = b.x. b.x = 4, c.x = 6.
abbrev pub CopiesAreEquated : Type 0
CopiesAreEquated = Identifies two_copies (λ k. 0) × IsPutBeside 4 (identified 4 (λ k. 0) two_copies) (λ k. 0) false copy_entry_head.clause copy_entry_head.origin (identified 4 (λ k. 0) two_copies) copy_outer × ((meet_store_by_number (λ k. k) (identified 4 (λ k. k) two_copies) copy_entry_head copy_outer cp_kind).equations ≡ equal_constants 4 4 ∷ equal_constants 6 4 ∷ []) × ((meet_store_by_number (λ k. 0) (identified 4 (λ k. 0) two_copies) copy_entry_head copy_outer cp_kind).equations ≡ equal_constants 4 4 ∷ equal_constants 4 4 ∷ [])

-- some {n:exp} block {y:exp -> exp} {v:p (y c)}, for a constant c
abbrev pub function_entry : LfType
function_entry = on_one 1 (root (variable 0) (app (root (constant 9) nil) nil))

abbrev pub function_block : Block
function_block = record { label = 98 ∷ []; some = exp ∷ []; entries = on_one 1 (root (variable 0) (app (root (constant 9) nil) nil)) ∷ pi exp exp ∷ [] }

abbrev pub function_clause : Clause
function_clause = entry_clause function_block (pi exp exp ∷ []) function_entry

abbrev pub function_head : Pattern
function_head = head_pattern function_clause (of_entry function_block [] function_entry (pi exp exp ∷ []) refl)

-- The case p (b.y M) of b on N: b.y is 10, and stands on N.
abbrev pub function_case : NumberedCase
function_case = record { blocks = record { block = function_block; terms = app (var 1) nil } ∷ []; variables = exp ∷ exp ∷ []; given = []; local = []; family = 1; arguments = Some (root (constant 10) (app (var 1) (app (var 0) nil))) ∷ [] }

-- Its candidate is M, which stands where v has c; N, on which b stands, is none.
abbrev pub OwnTermsAreNoCandidates : Type 0
OwnTermsAreNoCandidates = numbered_candidates 10 function_case function_head ≡ 0 ∷ []
