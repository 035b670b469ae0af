-- Worked: a variable that only an entry of the worlds can be. In the worlds of {x:exp} {u:p x}, where exp has no constant, p X is split into p b.x, for a new
-- block variable b; and the entry u covers it.
use Rattle.std.specs.Prelude.{◌≡◌, ℕ, zero, suc, [], ◌∷◌, Bool, true, Option, Some, None, refl}
use Rattle.lf.specs.Syntax.{constant, variable, Term, root, nil, app, LfType, atom, Kind, kind_pi, star}
use Rattle.lf.specs.Typing.{Signature}
use Rattle.lf.specs.Subordination.{Block, SelfContained}
use Rattle.lf_checks.specs.Below.{IsSubordination}
use Rattle.lf_checks.specs.Clause.{Clause, entry_clause}
use Rattle.lf_cases.specs.Pattern.{Pattern, of_entry, head_pattern}
use Rattle.lf_numbered.specs.EntryPatternsRuns.{IsCoveredByNumber, IsNumberedSplit}
use Rattle.lf_numbered.specs.NumberedCase.{NumberedCase}
use Rattle.lf_numbered.specs.NumberedSplits.{IsAnsweredByNumber}

abbrev pub exp : LfType
exp = atom 0 nil

-- p M
abbrev pub has : Term → LfType
has M = atom 1 (app M nil)

abbrev pub bare_kind : ℕ → Option Kind
bare_kind zero = Some star
bare_kind (suc zero) = Some (kind_pi exp star)
bare_kind (suc (suc a)) = None

abbrev pub Bare : Signature
Bare = record { types = λ c. None; kinds = bare_kind }

abbrev pub exp_block : Block
exp_block = record { label = 98 ∷ []; some = []; entries = has (root (variable 0) nil) ∷ exp ∷ [] }

abbrev pub open_case : NumberedCase
open_case = record { blocks = []; variables = exp ∷ []; given = []; local = []; family = 1; arguments = Some (root (variable 0) nil) ∷ [] }

-- 2 is the constant of b.x.
abbrev pub entry_case : NumberedCase
entry_case = record { blocks = record { block = exp_block; terms = nil } ∷ []; variables = []; given = []; local = []; family = 1; arguments = Some (root (constant 2) nil) ∷ [] }

abbrev pub OpenIsSplitByEntry : Type 0
OpenIsSplitByEntry = ((below : ℕ → ℕ → Bool) → IsAnsweredByNumber Bare 2 (exp_block ∷ []) below open_case 0 (entry_case ∷ [])) × ((below : ℕ → ℕ → Bool) → IsSubordination Bare (exp_block ∷ []) below → (S : ℕ → Bool) → SelfContained Bare (exp_block ∷ []) S → S 0 ≡ true → IsNumberedSplit Bare 2 (exp_block ∷ []) S open_case (entry_case ∷ []))

-- p b.x is an instance of u : p x, so the run ends well.
abbrev pub has_entry : Clause
has_entry = entry_clause exp_block (exp ∷ []) (has (root (variable 0) nil))

abbrev pub has_head : Pattern
has_head = head_pattern has_entry (of_entry exp_block [] (has (root (variable 0) nil)) (exp ∷ []) refl)

abbrev pub OpenIsCovered : Type 0
OpenIsCovered = (below : ℕ → ℕ → Bool) → IsSubordination Bare (exp_block ∷ []) below → (S : ℕ → Bool) → SelfContained Bare (exp_block ∷ []) S → S 0 ≡ true → IsCoveredByNumber Bare 2 (exp_block ∷ []) S (has_head ∷ []) open_case
