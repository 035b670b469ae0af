-- Worked: a run at a candidate in the worlds of some {T:tp} block {x:exp} {d:of x T} {u:q x}, whose `some` variable is of a family that no set beside which q X
-- is to be covered need have; and a variable that takes such a family.
use Rattle.std.specs.Prelude.{◌≡◌, ℕ, zero, suc, [], ◌∷◌, Bool, true, Option, Some, None, refl}
use Rattle.lf.specs.Syntax.{constant, Term, root, nil, app, LfType, pi, atom, Kind, kind_pi, star}
use Rattle.lf.specs.Typing.{Signature}
use Rattle.lf.specs.Variables.{FamiliesIn, same_number}
use Rattle.lf.specs.Subordination.{Block, IsBelowTest}
use Rattle.lf_checks.specs.Clause.{Clause, entry_clause}
use Rattle.lf_cases.specs.Case.{input_goal}
use Rattle.lf_cases.specs.Pattern.{Pattern, of_entry, head_pattern}
use Rattle.lf_cases.specs.Split.{Ends}
use Rattle.lf_totality.specs.Examples.{var}
use Rattle.lf_coverage.specs.Calls.{CoverIs, IsBeside, covered}
use Rattle.lf_numbered.specs.EntryPatternsRuns.{IsNumberedLeaf}
use Rattle.lf_numbered.specs.NumberedBeside.{IsUnifiedByNumber, TakesIn}
use Rattle.lf_numbered.specs.NumberedBesideFamilies.{WorldsAreIn}
use Rattle.lf_numbered.specs.NumberedCalls.{NumberedCoverIs, all_covered}
use Rattle.lf_numbered.specs.NumberedCallsReached.{numbered_candidates}
use Rattle.lf_numbered.specs.NumberedCandidatesRuns.{UnifiesCandidate}
use Rattle.lf_numbered.specs.NumberedCase.{NumberedCase}
use Rattle.lf_numbered.specs.NumberedSplitsExamples.{exp, has}
use Rattle.lf_numbered.specs.Numbering.{numbered}

-- exp is the family 0, q : exp -> type is 1, tp is 2, and of : exp -> tp -> type is 3.
abbrev pub tp : LfType
tp = atom 2 nil

abbrev pub typing : Term → Term → LfType
typing M T = atom 3 (app M (app T nil))

abbrev pub judged_kind : ℕ → Option Kind
judged_kind zero = Some star
judged_kind (suc zero) = Some (kind_pi exp star)
judged_kind (suc (suc zero)) = Some star
judged_kind (suc (suc (suc zero))) = Some (kind_pi exp (kind_pi tp star))
judged_kind (suc (suc (suc (suc a)))) = None

abbrev pub Judged : Signature
Judged = record { types = λ c. None; kinds = judged_kind }

abbrev pub judged_block : Block
judged_block = record { label = 108 ∷ []; some = tp ∷ []; entries = has (var 1) ∷ typing (var 0) (var 1) ∷ exp ∷ [] }

-- the head of u : q x
abbrev pub judged_clause : Clause
judged_clause = entry_clause judged_block (typing (var 0) (var 1) ∷ exp ∷ []) (has (var 1))

abbrev pub judged_head : Pattern
judged_head = head_pattern judged_clause (of_entry judged_block [] (has (var 1)) (typing (var 0) (var 1) ∷ exp ∷ []) refl)

-- q b.x, where b stands on a new T; 4 is the constant of x.
abbrev pub judged_entry : NumberedCase
judged_entry = record { blocks = record { block = judged_block; terms = app (var 0) nil } ∷ []; variables = tp ∷ []; given = []; local = []; family = 1; arguments = Some (root (constant 4) (app (var 0) nil)) ∷ [] }

abbrev pub judged_goal : NumberedCase
judged_goal = numbered 4 (input_goal 1 (true ∷ []) (kind_pi exp star))

-- X is the candidate of q X beside q x, and its split is q b.x alone.
abbrev pub JudgedIsSplit : Type 0
JudgedIsSplit = (numbered_candidates 4 judged_goal judged_head ≡ 0 ∷ []) × ((below : ℕ → ℕ → Bool) → IsUnifiedByNumber Judged 4 (judged_block ∷ []) below judged_goal 0 (judged_entry ∷ []))

-- The set of exp alone is one beside which q X is to be covered. The family tp of T isn't in it, so what asks for the families of `some` variables doesn't
-- serve here.
abbrev pub SomeTypeIsOutside : Type 0
SomeTypeIsOutside = IsBeside Judged (judged_block ∷ []) (same_number 0) (input_goal 1 (true ∷ []) (kind_pi exp star)) × (WorldsAreIn (same_number 0) (judged_block ∷ []) → ⊥)

-- But the run at candidates covers, by number and by items.
abbrev pub JudgedIsCovered : Type 0
JudgedIsCovered = (below : ℕ → ℕ → Bool) → ((f : ℕ) → IsBelowTest Judged (judged_block ∷ []) (below f) f) → Ends (IsNumberedLeaf Judged 4 (judged_block ∷ []) (judged_head ∷ [])) (UnifiesCandidate Judged 4 (judged_block ∷ []) below (judged_head ∷ [])) judged_goal × NumberedCoverIs Judged 4 (judged_block ∷ []) below (judged_head ∷ []) judged_goal all_covered × CoverIs Judged (judged_block ∷ []) below (judged_head ∷ []) (input_goal 1 (true ∷ []) (kind_pi exp star)) covered

-- Beside the set of q alone a variable of the type {x:exp} q x may be split, though exp isn't in the set; one of the type {y : {x:exp} q x} q z may not, since y
-- may be a head there.
abbrev pub RaisedMayBeOutside : Type 0
RaisedMayBeOutside = TakesIn (same_number 1) (pi exp (has (var 0))) × (FamiliesIn (same_number 1) (pi exp (has (var 0))) → ⊥) × (TakesIn (same_number 1) (pi (pi exp (has (var 0))) (has (var 1))) → ⊥)
