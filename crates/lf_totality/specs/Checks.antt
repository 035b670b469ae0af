-- What the checks of a group have found, each in its own words, before a record is made.
use Rattle.std.specs.Prelude.{◌≡◌, ℕ, List, Bool, true, ◌⊎◌}
use Rattle.lf.specs.Syntax.{LfType}
use Rattle.lf.specs.Typing.{Signature}
use Rattle.lf.specs.Variables.{target}
use Rattle.lf.specs.Subordination.{Block, Member, Below, AreTypedBlocks, IsBelowTest}
use Rattle.lf_checks.specs.Clause.{Clause, IsClause, IsSubgoal}
use Rattle.lf_checks.specs.Marks.{Mark, input_places}
use Rattle.lf_checks.specs.Ground.{Subgoals}
use Rattle.lf_checks.specs.Modes.{WellModed}
use Rattle.lf_checks.specs.Worlded.{WellWorlded, BlocksServe}
use Rattle.lf_checks.specs.Order.{Order, IsAtPlaces}
use Rattle.lf_checks.specs.Descent.{GroupDescends}
use Rattle.lf_cases.specs.Cover.{CoveredInputs, CoveredOutputs}
use Rattle.lf_totality.specs.Total.{HasTotalMarks}
use Rattle.lf_totality.specs.Group.{Checked}
use Rattle.lf_totality.specs.Record.{blocks_seen}

-- every family of S is below f
abbrev pub AreAllBelow : Signature → List Block → (ℕ → Bool) → ℕ → Type 0
AreAllBelow Σ V S f = (b : ℕ) → S b ≡ true → Below Σ V b f

-- The family b may be called: it is of the group, or of an earlier record with the same marks. That record's worlds have each block
-- of W, or the block has no entry whose target is below b by the blocks V.
abbrev pub MayBeCalled : Signature → List ℕ → (ℕ → List Mark) → List Block → List Checked → List Block → ℕ → Type 0
MayBeCalled Σ group m W totals V b = Member b group ⊎ ((Q : Checked) × Member Q totals × Member b Q.families × (Q.marks b ≡ m b) × ((T : ℕ → Bool) × IsBelowTest Σ V T b × BlocksServe W Q.worlds T))

-- The checks of the group have passed, with the marks m and the worlds W: hypotheses of the families in `moded`, the group's and
-- others, are looked at as clauses; the check of worlds looks at the blocks V, those of W and of earlier records and others;
-- coverage is beside sets in which all is below the family by the blocks of W and of earlier records.
pub record ChecksPass (Σ : Signature) (group : List ℕ) (m : ℕ → List Mark) (W : List Block) (order : ℕ → Order) (totals : List Checked) (moded : ℕ → Bool) (V : List Block) : Type 0 where
  pub marked : (f : ℕ) → Member f group → HasTotalMarks Σ f (m f)
  pub blocks_typed : AreTypedBlocks Σ (blocks_seen W totals)
  pub same_before : (Q : Checked) → Member Q totals → (f : ℕ) → Member f group → Member f Q.families → (Q.marks f ≡ m f) × (Q.worlds ≡ W)
  pub orders_at_inputs : (f : ℕ) → Member f group → IsAtPlaces (input_places (m f)) (order f)
  pub group_moded : (f : ℕ) → Member f group → moded f ≡ true
  pub well_moded : (c : Clause) → IsClause Σ W c → Member (target c.type) group → WellModed Σ m moded c
  pub well_worlded : (c : Clause) → IsClause Σ W c → Member (target c.type) group → WellWorlded Σ W c
  pub blocks_looked_at : (B : Block) → Member B (blocks_seen W totals) → Member B V
  pub callees : (c : Clause) → IsClause Σ W c → Member (target c.type) group → (i : ℕ) (A : LfType) → IsSubgoal c i A → MayBeCalled Σ group m W totals V (target A)
  pub descending : GroupDescends Σ W order group
  pub covered_inputs : (f : ℕ) → Member f group → (S : ℕ → Bool) × AreAllBelow Σ (blocks_seen W totals) S f × CoveredInputs Σ m W S f
  pub covered_outputs : (c : Clause) → IsClause Σ W c → Member (target c.type) group → Subgoals m c (λ U A. (S : ℕ → Bool) × AreAllBelow Σ (blocks_seen W totals) S (target c.type) × CoveredOutputs Σ m W S c U A) (λ U. Unit {0})
