-- What is known of a group before its record is made.
use Rattle.std.specs.Prelude.{ℕ, List, Bool}
use Rattle.lf.specs.Subordination.{Block}
use Rattle.lf.specs.Typing.{Signature}
use Rattle.lf_checks.specs.Marks.{Mark}
use Rattle.lf_totality.specs.Checks.{ChecksPass}
use Rattle.lf_totality.specs.Group.{Checked}
use Rattle.tw_total.specs.View.{OrderRow, families_of, order_for}

-- The checks of the group have passed, whichever other families have hypotheses that were looked at as clauses, and whichever further blocks the check of
-- worlds looked at.
abbrev pub HavePassed : Signature → List OrderRow → (ℕ → List Mark) → List Block → List Checked → Type 0
HavePassed Σ rows m W totals = (moded : ℕ → Bool) × (V : List Block) × ChecksPass Σ (families_of rows) m W (order_for rows) totals moded V
