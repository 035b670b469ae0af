-- The record of a checked group, and what is checked of a group.
use Rattle.std.specs.Prelude.{◌≡◌, ℕ, List, Bool, true, ◌⊎◌}
use Rattle.lf.specs.Syntax.{LfType}
use Rattle.lf.specs.Typing.{Signature}
use Rattle.lf.specs.Variables.{target, Within}
use Rattle.lf.specs.Subordination.{Block, Member, AreTypedBlocks, SelfContained}
use Rattle.lf_checks.specs.Tests.{is_in}
use Rattle.lf_checks.specs.Clause.{Clause, IsClause, IsSubgoal}
use Rattle.lf_checks.specs.Marks.{Mark, input_places}
use Rattle.lf_checks.specs.Ground.{Subgoals}
use Rattle.lf_checks.specs.Modes.{WellModed}
use Rattle.lf_checks.specs.Worlded.{WellWorlded, BlocksServe}
use Rattle.lf_checks.specs.Order.{Order, IsAtPlaces}
use Rattle.lf_checks.specs.Descent.{GroupDescends}
use Rattle.lf_cases.specs.Cover.{CoveredInputs, CoveredOutputs}
use Rattle.lf_totality.specs.Sizes.{CallsDrop}
use Rattle.lf_totality.specs.Total.{HasTotalMarks, Lasting}

-- The record of a group: its families with their marks, its worlds, for each of its families which families were below it when
-- the record was made, and the families that are frozen by it.
pub record Checked : Type 0 where
  pub families : List ℕ
  pub marks : ℕ → List Mark
  pub worlds : List Block
  pub below : ℕ → ℕ → Bool
  pub frozen : ℕ → Bool

-- The frozen families of a record: its own, the targets of its blocks' entries and, by the record, all below its own. They are
-- self-contained: every family in the kind of a frozen one, in the type of a constant or in an entry with a frozen target, is frozen.
pub record IsFrozenBy (Σ : Signature) (R : Checked) : Type 0 where
  pub families_frozen : (f : ℕ) → Member f R.families → R.frozen f ≡ true
  pub targets_frozen : (B : Block) (E : LfType) → Member B R.worlds → Member E B.entries → R.frozen (target E) ≡ true
  pub below_frozen : (f : ℕ) → Member f R.families → Within (R.below f) R.frozen
  pub self_contained : SelfContained Σ R.worlds R.frozen

-- A record is right: its families last, the families below each are self-contained, and they are frozen.
pub record IsRight (Σ : Signature) (R : Checked) : Type 0 where
  pub lasts : (f : ℕ) → Member f R.families → Lasting Σ f (R.marks f) R.worlds (R.below f)
  pub self_contained : (f : ℕ) → Member f R.families → SelfContained Σ R.worlds (R.below f)
  pub frozen : IsFrozenBy Σ R

-- The families below f hold those below b, as this record and each earlier one that holds b give them.
abbrev pub HoldsBelow : Checked → List Checked → ℕ → ℕ → Type 0
HoldsBelow R totals f b = (Member b R.families → Within (R.below b) (R.below f)) × ((Q : Checked) → Member Q totals → Member b Q.families → Within (Q.below b) (R.below f))

-- A callee b of the family f: the families below f hold those below b; and b is of the group, or of an earlier record with the same
-- marks, which the blocks serve.
abbrev pub IsCallee : Checked → List Checked → ℕ → ℕ → Type 0
IsCallee R totals f b = HoldsBelow R totals f b × (Member b R.families ⊎ ((Q : Checked) × Member Q totals × Member b Q.families × (Q.marks b ≡ R.marks b) × BlocksServe R.worlds Q.worlds (Q.below b)))

-- What is checked of a group, to be recorded as R, beside the records made before. The marks of R are those of every family called.
-- The local hypotheses looked at as clauses are those of the group's families. A family that an earlier record holds too has the
-- same marks and worlds there. By what the calls to the group descend is a parameter.
pub record GroupCheckedBy (Descending : Type 0) (Σ : Signature) (R : Checked) (order : ℕ → Order) (totals : List Checked) : Type 0 where
  pub marked : (f : ℕ) → Member f R.families → HasTotalMarks Σ f (R.marks f)
  pub blocks_typed : AreTypedBlocks Σ R.worlds
  pub same_before : (Q : Checked) → Member Q totals → (f : ℕ) → Member f R.families → Member f Q.families → (Q.marks f ≡ R.marks f) × (Q.worlds ≡ R.worlds)
  pub itself_below : (f : ℕ) → Member f R.families → R.below f f ≡ true
  pub self_contained : (f : ℕ) → Member f R.families → SelfContained Σ R.worlds (R.below f)
  pub frozen : IsFrozenBy Σ R
  pub orders_at_inputs : (f : ℕ) → Member f R.families → IsAtPlaces (input_places (R.marks f)) (order f)
  pub well_moded : (c : Clause) → IsClause Σ R.worlds c → Member (target c.type) R.families → WellModed Σ R.marks (λ f. is_in f R.families) c
  pub well_worlded : (c : Clause) → IsClause Σ R.worlds c → Member (target c.type) R.families → WellWorlded Σ R.worlds c
  pub callees : (c : Clause) → IsClause Σ R.worlds c → Member (target c.type) R.families → (i : ℕ) (A : LfType) → IsSubgoal c i A → IsCallee R totals (target c.type) (target A)
  pub descending : Descending
  pub covered_inputs : (f : ℕ) → Member f R.families → CoveredInputs Σ R.marks R.worlds (R.below f) f
  pub covered_outputs : (c : Clause) → IsClause Σ R.worlds c → Member (target c.type) R.families → Subgoals R.marks c (λ U A. CoveredOutputs Σ R.marks R.worlds (R.below (target c.type)) c U A) (λ U. Unit {0})

-- the calls descend by the orders of the families
abbrev pub GroupChecked : Signature → Checked → (ℕ → Order) → List Checked → Type 0
GroupChecked Σ R order totals = GroupCheckedBy (GroupDescends Σ R.worlds order R.families) Σ R order totals

-- It is enough that the sizes of what the orders name drop: so other facts about sizes may come in beside the orders.
abbrev pub GroupCheckedBySizes : Signature → Checked → (ℕ → Order) → List Checked → Type 0
GroupCheckedBySizes Σ R order totals = GroupCheckedBy (CallsDrop Σ R.worlds order R.families) Σ R order totals
