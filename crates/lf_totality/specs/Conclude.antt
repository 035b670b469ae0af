-- The laws on what is concluded of a group: from what its checks say to what is asked of it, and what its record is.
use Rattle.std.specs.Prelude.{◌≡◌, ℕ, List, ◌∷◌, Bool, true, false, Some}
use Rattle.lf.specs.Typing.{Signature, IsSignature}
use Rattle.lf.specs.Variables.{target, Within}
use Rattle.lf.specs.Subordination.{Block, Member, IsDeclared, AreTypedBlocks, SelfContained}
use Rattle.lf.specs.Extension.{Extends}
use Rattle.lf.specs.Entries.{Entry, signature_of, IsCanonicalEntry, IsCanonicalSignature}
use Rattle.lf.specs.Constants.{family_of}
use Rattle.lf.specs.Syntax.{LfType}
use Rattle.lf_checks.specs.Clause.{Clause, IsClause, IsSubgoal}
use Rattle.lf_checks.specs.Marks.{Mark}
use Rattle.lf_checks.specs.Modes.{WellModedFrom}
use Rattle.lf_checks.specs.Worlded.{BlocksServe}
use Rattle.lf_checks.specs.Order.{Order}
use Rattle.lf_checks.specs.Descent.{GroupDescends}
use Rattle.lf_totality.specs.Group.{Checked, IsFrozenBy, IsRight, HoldsBelow, GroupChecked}
use Rattle.lf_totality.specs.Record.{blocks_seen, IsRecordOf, AreBelow, HoldsCallees}
use Rattle.lf_totality.specs.Sizes.{CallsDrop}
use Rattle.lf_totality.specs.Checks.{ChecksPass}

-- The record of declared families has a self-contained set with the family in it below each, and freezes what a record freezes.
abbrev pub RecordFreezes : Type 0
RecordFreezes = (Σ : Signature) → IsSignature Σ → (group : List ℕ) (m : ℕ → List Mark) (W : List Block) (totals : List Checked) → AreTypedBlocks Σ (blocks_seen W totals) → ((f : ℕ) → Member f group → IsDeclared Σ f) → (R : Checked) → IsRecordOf Σ group m W totals R → ((f : ℕ) → Member f R.families → (R.below f f ≡ true) × SelfContained Σ R.worlds (R.below f)) × IsFrozenBy Σ R

-- What is below a callee is below its caller, as the record and those before it have it.
abbrev pub CalleesAreHeld : Type 0
CalleesAreHeld = (Σ : Signature) (group : List ℕ) (m : ℕ → List Mark) (W : List Block) (totals : List Checked) (R : Checked) → IsRecordOf Σ group m W totals R → AreBelow Σ totals → (c : Clause) → IsClause Σ R.worlds c → Member (target c.type) R.families → (i : ℕ) (A : LfType) → IsSubgoal c i A → HoldsBelow R totals (target c.type) (target A)

-- Two records of one group are the same, in what they have below a family of the group and in what they freeze.
abbrev pub RecordIsOne : Type 0
RecordIsOne = (Σ : Signature) (group : List ℕ) (m : ℕ → List Mark) (W : List Block) (totals : List Checked) (R Q : Checked) → IsRecordOf Σ group m W totals R → IsRecordOf Σ group m W totals Q → (R.families ≡ Q.families) × (R.marks ≡ Q.marks) × (R.worlds ≡ Q.worlds) × ((f : ℕ) → Member f group → (b : ℕ) → R.below f b ≡ Q.below f b) × ((b : ℕ) → R.frozen b ≡ Q.frozen b)

-- a clause that is well-moded where hypotheses of more families are looked at as clauses is so where those of fewer are
abbrev pub FewerModed : Type 0
FewerModed = (Σ : Signature) (m : ℕ → List Mark) (moded fewer V : ℕ → Bool) (c : Clause) → Within fewer moded → WellModedFrom Σ m moded V c → WellModedFrom Σ m fewer V c

-- blocks that serve a callee serve it where fewer families are below it
abbrev pub BlocksServeFewer : Type 0
BlocksServeFewer = (W V : List Block) (S T : ℕ → Bool) → Within S T → BlocksServe W V T → BlocksServe W V S

-- an entry over a canonical signature that is no constant with its target in S is a legal extension over S
abbrev pub AppendedEntryExtends : Type 0
AppendedEntryExtends = (es : List Entry) → IsCanonicalSignature es → (e : Entry) → IsCanonicalEntry (signature_of es) e → (S : ℕ → Bool) → ((a : ℕ) → family_of e.body ≡ Some a → S a ≡ false) → Extends S (signature_of es) (signature_of (e ∷ es))

-- a group stays checked beside fewer records that hold every callee still
abbrev pub CheckedBesideFewer : Type 0
CheckedBesideFewer = (Σ : Signature) (R : Checked) (order : ℕ → Order) (totals fewer : List Checked) → ((Q : Checked) → Member Q fewer → Member Q totals) → HoldsCallees Σ R totals fewer → GroupChecked Σ R order totals → GroupChecked Σ R order fewer

-- calls that descend by their orders have sizes that drop
abbrev pub DescendingCallsDrop : Type 0
DescendingCallsDrop = (Σ : Signature) (W : List Block) (order : ℕ → Order) (group : List ℕ) → GroupDescends Σ W order group → CallsDrop Σ W order group

-- What is concluded: where the checks of a group have passed, its record is checked, and it is right where those before it are.
abbrev pub ChecksConclude : Type 0
ChecksConclude = (Σ : Signature) → IsSignature Σ → (group : List ℕ) (m : ℕ → List Mark) (W : List Block) (order : ℕ → Order) (totals : List Checked) (moded : ℕ → Bool) (V : List Block) → ChecksPass Σ group m W order totals moded V → AreBelow Σ totals → (R : Checked) → IsRecordOf Σ group m W totals R → GroupChecked Σ R order totals × (((Q : Checked) → Member Q totals → IsRight Σ Q) → IsRight Σ R)
