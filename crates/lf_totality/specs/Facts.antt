-- Facts about sizes: what is known of a clause's values where a subgoal is called, since the subgoals before it are solved.
use Rattle.std.specs.Prelude.{◌≡◌, ℕ, List, Bool, true, ◌<◌, ◌≤◌}
use Rattle.lf.specs.Syntax.{Term, LfType}
use Rattle.lf.specs.Substitution.{Image, substitute, substitute_type, reduce}
use Rattle.lf.specs.Typing.{Signature, HasType}
use Rattle.lf.specs.Variables.{target}
use Rattle.lf.specs.Subordination.{Member}
use Rattle.lf.specs.Worlds.{World}
use Rattle.lf.specs.Extension.{Extends}
use Rattle.lf_checks.specs.Tests.{choose}
use Rattle.lf_checks.specs.Clause.{Clause, IsClause, IsSubgoal, outside}
use Rattle.lf_checks.specs.Order.{Order, size, KeepsVariables}
use Rattle.lf_checks.specs.Descent.{CallsLead}
use Rattle.lf_totality.specs.Sizes.{SizesDropBy}
use Rattle.lf_totality.specs.Group.{Checked, GroupCheckedBy}

-- The subgoals of the clause before index i are solved in G, with the values σ: each has an inhabitant at its outputs. That of a
-- subgoal without local context is a term of its family.
abbrev pub AreSolved : Signature → List LfType → Clause → ℕ → (ℕ → Image) → Type 0
AreSolved Σ G c i σ = (j : ℕ) (A : LfType) → j < i → IsSubgoal c j A → (M : Term) × HasType Σ G M (substitute_type reduce σ A)

-- The subgoal at index i of a clause of the record's group is called with the values σ: in a legal extension over what is below the
-- clause's family, in a context of the record's worlds beside that, where the fixed variables are variables and the subgoals before it
-- are solved.
pub record IsCalled (Σ : Signature) (R : Checked) (c : Clause) (i : ℕ) (σ : ℕ → Image) : Type 0 where
  pub later : Signature
  pub context : List LfType
  pub extends : Extends (R.below (target c.type)) Σ later
  pub world : World later R.worlds (R.below (target c.type)) context
  pub keeps : KeepsVariables (outside c.type c.fixed) σ
  pub solved : AreSolved later context c i σ

-- a fact about sizes in the scope of a clause: one term is smaller than another, or no greater where the fact isn't strict
pub record Fact : Type 0 where
  pub left : Term
  pub strict : Bool
  pub right : Term

-- it holds of the values σ
abbrev pub Holds : (ℕ → Image) → Fact → Type 0
Holds σ f = choose f.strict (size (substitute reduce σ f.left) < size (substitute reduce σ f.right)) (size (substitute reduce σ f.left) ≤ size (substitute reduce σ f.right))

-- facts for each clause and the index of each of its subgoals
abbrev pub Facts : Type 0
Facts = Clause → ℕ → List Fact

-- They hold of the record's group: whenever a clause of the group calls the group, those for this call hold of the values.
abbrev pub FactsHold : Facts → Signature → Checked → Type 0
FactsHold facts Σ R = (c : Clause) → IsClause Σ R.worlds c → Member (target c.type) R.families → (i : ℕ) (A : LfType) → IsSubgoal c i A → Member (target A) R.families → (σ : ℕ → Image) → IsCalled Σ R c i σ → (f : Fact) → Member f (facts c i) → Holds σ f

-- the fixed variables are variables, and the facts for the subgoal at index i hold
abbrev pub AreKnown : Facts → Clause → ℕ → (ℕ → Image) → Type 0
AreKnown facts c i σ = KeepsVariables (outside c.type c.fixed) σ × ((f : Fact) → Member f (facts c i) → Holds σ f)

-- With these facts the sizes drop in each call to the group. Calls may count as equal from one family to another; then none of those lead
-- back.
abbrev pub CallsDropWith : Facts → (ℕ → ℕ → Bool) → Signature → Checked → (ℕ → Order) → Type 0
CallsDropWith facts equal Σ R order = (c : Clause) → IsClause Σ R.worlds c → Member (target c.type) R.families → (i : ℕ) (A : LfType) → IsSubgoal c i A → Member (target A) R.families → SizesDropBy (AreKnown facts c i) ((equal (target c.type) (target A) ≡ true) × (CallsLead equal (target A) (target c.type) → ⊥)) order c A

-- what is checked of a group whose calls descend by facts about sizes
abbrev pub GroupCheckedWith : Facts → (ℕ → ℕ → Bool) → Signature → Checked → (ℕ → Order) → List Checked → Type 0
GroupCheckedWith facts equal Σ R order totals = GroupCheckedBy (CallsDropWith facts equal Σ R order) Σ R order totals
