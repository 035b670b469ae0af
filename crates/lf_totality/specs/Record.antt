-- What the record of a group says: its families in order, their marks and worlds, and exactly what subordination gives.
use Rattle.std.specs.Prelude.{◌≡◌, ℕ, List, [], ◌∷◌, ◌++◌, true, ◌⊎◌, ◌↔◌}
use Rattle.lf.specs.Syntax.{LfType}
use Rattle.lf.specs.Typing.{Signature}
use Rattle.lf.specs.Variables.{target}
use Rattle.lf.specs.Subordination.{Block, Member, Below, IsBelowTest}
use Rattle.lf_checks.specs.Clause.{Clause, IsClause, IsSubgoal}
use Rattle.lf_checks.specs.Marks.{Mark}
use Rattle.lf_totality.specs.Group.{Checked}

-- the blocks of the worlds of all these records
abbrev pub blocks_of : List Checked → List Block
blocks_of [] = []
blocks_of (Q ∷ Qs) = Q.worlds ++ blocks_of Qs

-- The blocks over which a group with the worlds W looks at subordination: those of W, and of the worlds of the records before it.
abbrev pub blocks_seen : List Block → List Checked → List Block
blocks_seen W totals = W ++ blocks_of totals

-- The family b is to be frozen by a group with the worlds W, where subordination is that of the blocks V: b is below a family of the
-- group, or below the target of an entry of a block of W.
abbrev pub IsToBeFrozen : Signature → List Block → List ℕ → List Block → ℕ → Type 0
IsToBeFrozen Σ V group W b = ((f : ℕ) × Member f group × Below Σ V b f) ⊎ ((B : Block) × (E : LfType) × Member B W × Member E B.entries × Below Σ V b (target E))

-- R is the record of the group with the marks m and the worlds W, made at the signature beside the records before it. Each of its
-- sets is exactly what subordination gives: a greater set below a family says less of what lasts, and a lesser one may lack a clause.
pub record IsRecordOf (Σ : Signature) (group : List ℕ) (m : ℕ → List Mark) (W : List Block) (totals : List Checked) (R : Checked) : Type 0 where
  pub families : R.families ≡ group
  pub marks : R.marks ≡ m
  pub worlds : R.worlds ≡ W
  pub below : (f : ℕ) → Member f group → IsBelowTest Σ (blocks_seen W totals) (R.below f) f
  pub frozen : (b : ℕ) → (R.frozen b ≡ true) ↔ IsToBeFrozen Σ (blocks_seen W totals) group W b

-- What each record has below a family of its own is below it still, over the signature and the worlds of all these records.
abbrev pub AreBelow : Signature → List Checked → Type 0
AreBelow Σ totals = (Q : Checked) → Member Q totals → (g : ℕ) → Member g Q.families → (b : ℕ) → Q.below g b ≡ true → Below Σ (blocks_of totals) b g

-- Of the records, `fewer` holds each that has a family which a clause of R's group calls outside of the group.
abbrev pub HoldsCallees : Signature → Checked → List Checked → List Checked → Type 0
HoldsCallees Σ R totals fewer = (c : Clause) → IsClause Σ R.worlds c → Member (target c.type) R.families → (i : ℕ) (A : LfType) → IsSubgoal c i A → (Q : Checked) → Member Q totals → Member (target A) Q.families → Member (target A) R.families ⊎ Member Q fewer
