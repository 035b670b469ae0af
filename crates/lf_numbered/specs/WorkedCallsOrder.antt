-- Worked splits by number that show the order of the cases: the entry of a new block variable comes before that of an old one, and a block that stands twice
-- in the worlds is offered twice.
use Rattle.std.specs.Prelude.{ℕ, [], ◌∷◌, Bool, Some}
use Rattle.lf.specs.Syntax.{constant, root, nil}
use Rattle.lf_checks.specs.Below.{IsSubordination}
use Rattle.lf_totality.specs.Examples.{exp, var}
use Rattle.lf_numbered.specs.NumberedCalls.{NumberedSplitIs, numbered_cases}
use Rattle.lf_numbered.specs.NumberedCase.{NumberedCase}
use Rattle.lf_numbered.specs.NumberedSplitsExamples.{Bare, entry_case, exp_block, open_case}

-- The case is p X, beside a block variable b of {x:exp} {u:p x}. The constant of b.x is 2, and that of c.x, for a new block variable c, is 4.
abbrev pub beside_block : NumberedCase
beside_block = record { blocks = record { block = exp_block; terms = nil } ∷ []; variables = exp ∷ []; given = []; local = []; family = 1; arguments = Some (var 0) ∷ [] }

abbrev pub old_entry_case : NumberedCase
old_entry_case = record { blocks = record { block = exp_block; terms = nil } ∷ []; variables = []; given = []; local = []; family = 1; arguments = Some (root (constant 2) nil) ∷ [] }

abbrev pub new_entry_case : NumberedCase
new_entry_case = record { blocks = record { block = exp_block; terms = nil } ∷ record { block = exp_block; terms = nil } ∷ []; variables = []; given = []; local = []; family = 1; arguments = Some (root (constant 4) nil) ∷ [] }

-- It is split into p c.x and p b.x, the new one first. Each ground instance of p X is one of p c.x with b and c apart, or one of p b.x; so neither case has to
-- make b and c one.
abbrev pub NewEntryComesFirst : Type 0
NewEntryComesFirst = (below : ℕ → ℕ → Bool) → IsSubordination Bare (exp_block ∷ []) below → NumberedSplitIs Bare 2 (exp_block ∷ []) below beside_block 0 (numbered_cases (new_entry_case ∷ old_entry_case ∷ []))

-- In worlds that have the block {x:exp} {u:p x} twice, p X is split into p b.x and again p b.x.
abbrev pub EntryIsOfferedTwice : Type 0
EntryIsOfferedTwice = (below : ℕ → ℕ → Bool) → IsSubordination Bare (exp_block ∷ exp_block ∷ []) below → NumberedSplitIs Bare 2 (exp_block ∷ exp_block ∷ []) below open_case 0 (numbered_cases (entry_case ∷ entry_case ∷ []))
