-- Worked stores of a case by number and a constant's pattern, where block variables are apart.
use Rattle.std.specs.Prelude.{◌≡◌, ℕ, [], ◌∷◌, Some}
use Rattle.lf.specs.Syntax.{constant, metavariable, Term, root, nil, app}
use Rattle.lf_unification.specs.Steps.{CanRefute}
use Rattle.lf_unification.specs.Unifiers.{Equation}
use Rattle.lf_totality.specs.Examples.{Copying, copy_block, cp_kind, exp, var}
use Rattle.lf_coverage.specs.ExamplesCopying.{copy_app_head}
use Rattle.lf_numbered.specs.EntryConstants.{with_entries}
use Rattle.lf_numbered.specs.ExamplesNumbered.{two_copies}
use Rattle.lf_numbered.specs.NumberedCase.{NumberedCase}
use Rattle.lf_numbered.specs.NumberedTuples.{apart_store}
use Rattle.lf_numbered.specs.OwnTerms.{blocks_of}

-- cp X Y, where b is a block variable
abbrev pub open_copies : NumberedCase
open_copies = record { blocks = record { block = copy_block; terms = nil } ∷ []; variables = exp ∷ exp ∷ []; given = []; local = []; family = 1; arguments = Some (var 1) ∷ Some (var 0) ∷ [] }

abbrev pub applied : ℕ → ℕ → Term
applied m n = root (constant 2) (app (root (metavariable m) nil) (app (root (metavariable n) nil) nil))

abbrev pub is_applied : ℕ → ℕ → ℕ → Equation
is_applied k m n = record { local = []; left = root (metavariable k) nil; right = applied m n; of_type = exp }

-- cp b.x c.x is apart from the head of cp-app: steps refute b.x = app E1 E2. With cp X Y it has the equations X = app E1 E2 and Y = app F1 F2, in which no
-- heads clash; the clause's metavariables have the numbers from 0 to 5, and the case's follow.
abbrev pub CopiesAreApart : Type 0
CopiesAreApart = CanRefute (with_entries Copying 4 (blocks_of two_copies.blocks)) (apart_store two_copies copy_app_head cp_kind) × ((apart_store open_copies copy_app_head cp_kind).equations ≡ is_applied 7 5 4 ∷ is_applied 6 3 2 ∷ [])
