-- A metavariable loses an argument: its new type, and the arguments that stay.
use Rattle.std.specs.Prelude.{◌≡◌, ◌↔◌, ℕ, List, Option, Some}
use Rattle.lf.specs.Subordination.{Member}
use Rattle.lf.specs.Syntax.{LfType, Skeleton, Spine, Term, skeleton}
use Rattle.lf_unification.specs.Inversion.{IsPattern, MustDrop}
use Rattle.lf_unification.specs.OpenTyping.{skeletons_of}
use Rattle.lf_unification.specs.Patterns.{beyond, pattern, pattern_renaming}
use Rattle.lf_unification.specs.Pruning.{PrunedType, pruned_type}
use Rattle.lf_unification.specs.Rigid.{past_binders}
use Rattle.tw_prune.specs.Standing.{IsVariableOfPlace}

-- The type X without its argument at the place is Y, and S are the arguments that stay, under the lambdas of the old value.
pub record LosesArgument (X : LfType) (place : ℕ) (Y : LfType) (S : Spine) : Type 0 where
  pub dropped : ℕ
  pub at : IsVariableOfPlace (skeleton X) place dropped
  pub pruned : (Ψ : ℕ → Option LfType) (n : ℕ) → Ψ n ≡ Some X → (p : PrunedType Ψ n dropped) × (pruned_type p ≡ Y) × (pattern (skeleton (pruned_type p)) p.kept ≡ S)

-- there is no such type, or no such argument
abbrev pub KeepsArgument : LfType → ℕ → Type 0
KeepsArgument X place = (Ψ : ℕ → Option LfType) (n dropped : ℕ) → Ψ n ≡ Some X → IsVariableOfPlace (skeleton X) place dropped → PrunedType Ψ n dropped → ⊥

-- A variable is the one that a metavariable must lose exactly where it is that of the place.
abbrev pub DropsVariableOfPlace : Type 0
DropsVariableOfPlace = (Ψ : ℕ → Option LfType) (D : List LfType) (t : Skeleton) (xs : List ℕ) (N : Term) (drop : MustDrop Ψ D t xs N) (dropped : ℕ) → (pattern_renaming (skeletons_of Ψ drop.m) drop.ys (λ j. past_binders drop.depth (beyond D j)) dropped ≡ drop.bad) ↔ IsVariableOfPlace (skeletons_of Ψ drop.m) drop.place dropped

-- The places are those at which two patterns at one skeleton differ.
abbrev pub AreDifferences : List ℕ → List ℕ → List ℕ → Type 0
AreDifferences xs ys places = (D : List LfType) (t : Skeleton) → IsPattern D t xs → IsPattern D t ys → (dropped : ℕ) → (pattern_renaming t xs (beyond D) dropped ≡ pattern_renaming t ys (beyond D) dropped → ⊥) ↔ ((place : ℕ) × Member place places × IsVariableOfPlace t place dropped)
