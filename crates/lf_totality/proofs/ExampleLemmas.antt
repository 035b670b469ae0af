-- What the worked examples share: one step of a walk over subgoals, and the subordination of two families.
use Rattle.std.proofs.Common.{◌≡◌, ℕ, zero, suc, List, [], ◌∷◌, refl, sym, ap, ◌∙◌, subst}
use Rattle.std.specs.Prelude.{Bool, true}
use Rattle.lf.specs.Syntax.{LfType}
use Rattle.lf.specs.Typing.{TypeAt}
use Rattle.lf.specs.Variables.{Within, same_number}
use Rattle.lf.proofs.Decidability.{variable_type_unique}
use Rattle.lf_checks.specs.Tests.{is_in}
use Rattle.lf_checks.specs.Clause.{Clause, scope}
use Rattle.lf_checks.specs.Marks.{Mark}
use Rattle.lf_checks.specs.Ground.{EachSubgoal, ground_after}
use Rattle.lf_totality.specs.Examples.{first_below_second}

-- one subgoal, whose type is known
pub step : (m : ℕ → List Mark) (c : Clause) (P : (ℕ → Bool) → LfType → Type 0) (Q : (ℕ → Bool) → Type 0) (n i : ℕ) (U : ℕ → Bool) (X : LfType) → TypeAt (scope c) i X → P U X × EachSubgoal m c P Q n (suc i) (ground_after m c X U) → (A : LfType) → TypeAt (scope c) i A → P U A × EachSubgoal m c P Q n (suc i) (ground_after m c A U)
step m c P Q n i U X g p A h = subst (λ B. P U B × EachSubgoal m c P Q n (suc i) (ground_after m c B U)) (variable_type_unique (scope c) i X A g h) p

-- the second family alone is of the group
abbrev pub in_group : ℕ → Bool
in_group a = is_in a (1 ∷ [])

same_self : (i : ℕ) → same_number i i ≡ true
same_self zero = refl
same_self (suc i) = same_self i

pub below_itself : (f : ℕ) → first_below_second f f ≡ true
below_itself zero = refl
below_itself (suc zero) = refl
below_itself (suc (suc n)) = same_self n

-- equal families have the same below them
pub same_below : {f g : ℕ} → f ≡ g → Within (first_below_second f) (first_below_second g)
same_below e b h = ap (λ a. first_below_second a b) (sym e) ∙ h
