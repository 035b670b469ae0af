-- From the answers of the checks to what is asked of a group.
use Rattle.std.specs.Prelude.{◌≡◌, ◌⊎◌, ℕ, List, Bool, true, Some}
use Rattle.lf.specs.Entries.{Entry, signature_of}
use Rattle.lf.specs.Subordination.{AreTypedBlocks, Block, IsBelowTest, Member}
use Rattle.lf.specs.Syntax.{LfType}
use Rattle.lf.specs.Variables.{target}
use Rattle.lf_cases.specs.Cover.{CoveredInputs, CoveredOutputs}
use Rattle.lf_checks.specs.Clause.{Clause, IsClause, IsSubgoal}
use Rattle.lf_checks.specs.Clauses.{group_clauses}
use Rattle.lf_checks.specs.Descent.{CallDescends}
use Rattle.lf_checks.specs.Ground.{Subgoals}
use Rattle.lf_checks.specs.Marks.{input_places}
use Rattle.lf_checks.specs.ModeFaults.{GroupIsModed}
use Rattle.lf_checks.specs.ModeRows.{ModeRow, is_moded, marks_of}
use Rattle.lf_checks.specs.Order.{IsAtPlaces}
use Rattle.lf_checks.specs.OrderFaults.{AllDescend}
use Rattle.lf_checks.specs.WorldFaults.{GroupIsWorlded, WorldRow, worlds_of}
use Rattle.lf_totality.specs.Checks.{AreAllBelow, ChecksPass}
use Rattle.lf_totality.specs.Group.{Checked}
use Rattle.lf_totality.specs.Record.{blocks_seen}
use Rattle.lf_totality.specs.Total.{HasTotalMarks}
use Rattle.tw_total.specs.View.{OrderRow, families_of, order_for}

-- A called family is of the group, or of an earlier record, whose marks and worlds are those of its rows.
abbrev pub IsTotalOrOfGroup : List ℕ → List ModeRow → List WorldRow → List Checked → ℕ → Type 0
IsTotalOrOfGroup group modes rows totals b = Member b group ⊎ ((Q : Checked) × Member Q totals × Member b Q.families × (Q.marks b ≡ marks_of modes b) × (worlds_of rows b ≡ Some Q.worlds))

-- What was found of a group with the worlds W, each in the words of the check that finds it. The families have rows and sound marks, inputs and outputs alone; the orders stand at
-- inputs; earlier records of a family agree. The checks of modes, worlds and orders said yes, that of worlds over a subordination by the blocks V, which hold those of W and of the
-- earlier records; each called family is total or of the group; and inputs and outputs are covered, beside sets that are below the family.
pub record AnswersOf (es : List Entry) (group : List OrderRow) (modes : List ModeRow) (rows : List WorldRow) (W : List Block) (totals : List Checked) (V : List Block) (below : ℕ → ℕ → Bool) : Type 0 where
  pub moded : (f : ℕ) → Member f (families_of group) → is_moded modes f ≡ true
  pub marked : (f : ℕ) → Member f (families_of group) → HasTotalMarks (signature_of es) f (marks_of modes f)
  pub blocks_typed : AreTypedBlocks (signature_of es) (blocks_seen W totals)
  pub same_before : (Q : Checked) → Member Q totals → (f : ℕ) → Member f (families_of group) → Member f Q.families → (Q.marks f ≡ marks_of modes f) × (Q.worlds ≡ W)
  pub orders_at_inputs : (f : ℕ) → Member f (families_of group) → IsAtPlaces (input_places (marks_of modes f)) (order_for group f)
  pub modes_checked : GroupIsModed es modes W (families_of group)
  pub subordination : (f : ℕ) → IsBelowTest (signature_of es) V (below f) f
  pub blocks_looked_at : (B : Block) → Member B (blocks_seen W totals) → Member B V
  pub worlds_checked : GroupIsWorlded es rows (families_of group) below W
  pub callees : (c : Clause) → IsClause (signature_of es) W c → Member (target c.type) (families_of group) → (i : ℕ) (A : LfType) → IsSubgoal c i A → IsTotalOrOfGroup (families_of group) modes rows totals (target A)
  pub orders_checked : AllDescend (CallDescends (signature_of es) W (order_for group) (families_of group)) (families_of group) (group_clauses es W (families_of group))
  pub covered_inputs : (f : ℕ) → Member f (families_of group) → (S : ℕ → Bool) × AreAllBelow (signature_of es) (blocks_seen W totals) S f × CoveredInputs (signature_of es) (marks_of modes) W S f
  pub covered_outputs : (c : Clause) → IsClause (signature_of es) W c → Member (target c.type) (families_of group) → Subgoals (marks_of modes) c (λ U A. (S : ℕ → Bool) × AreAllBelow (signature_of es) (blocks_seen W totals) S (target c.type) × CoveredOutputs (signature_of es) (marks_of modes) W S c U A) (λ U. Unit {0})

-- so the checks of the group have passed, and its record can be made
abbrev pub AnswersPass : Type 0
AnswersPass = (es : List Entry) (group : List OrderRow) (modes : List ModeRow) (rows : List WorldRow) (W : List Block) (totals : List Checked) (V : List Block) (below : ℕ → ℕ → Bool) → AnswersOf es group modes rows W totals V below → ChecksPass (signature_of es) (families_of group) (marks_of modes) W (order_for group) totals (is_moded modes) V
